-- How long the texts are, and what fits.
use mathlib.Core.Path.{◌≡◌, refl, sym, ap, ◌∙◌}
use mathlib.Core.Bool.{Bool, true, false, cond, ◌&&◌}
use mathlib.Core.List.{List, [], ◌∷◌}
use Prim.Native.Nat.{ℕ, zero, suc, ◌+◌, ◌*◌, ◌/◌, ◌≤◌, ◌<◌}
use native.Mathlib.Nat.{suc-mul, mul-le-mul}
use native.Mathlib.Numerals.{add-one}
use native.Mathlib.Omega.{arith}
use borrow.Author.Tests.{leb-true, eqb-true, le-leb, eq-eqb}
use lib.Dec.{eqb, leb}
use lib.ListN.{length, get_or, length-append}
use lib.Ieee.{Float, nan, binary64, to_bits}
use Rattle.std.specs.Prelude.{if◌then◌else◌, Result, Ok, Err}
use Rattle.refusal.specs.declared.Refusal.{Refusal}
use Rattle.refusal.specs.declared.Refusal.TheVariants as refusal
use Rattle.digits.specs.Written.{decimal, hex_of, ended}
use Rattle.digits.proofs.Lengths.{decimal_length}
use Rattle.digits.proofs.Both.{both_left, both_right}
use Rattle.output.specs.Output.{each, numbers_line, pixel, row_line, picture_text, picture_room, picture_answer, refusal_text, refusal_answer, step_line, totals_text, totals_answer, clipped_text, clipped_answer, room, Adds}
use Rattle.copying.specs.declared.Writer.{Writer}
use Rattle.copying.specs.Parts.{Put}
use Rattle.copying.proofs.PartLaws.{put_as}
use Rattle.output.proofs.Fronts.{adds_none, adds_put}
use Rattle.output.proofs.Lines.{tabbed, tabbed_more, ended_more, row_text, totals-text, lines_done}

tabbed_length : (f : ℕ → List ℕ) (m n : ℕ) → ((i : ℕ) → length (f i) ≡ m) → length (tabbed (each f n)) ≡ n * (m + 1)
unfolding each
tabbed_length f m zero h = omega arith
tabbed_length f m (suc n) h = ap length (tabbed_more (each f n) (f n)) ∙ length-append (tabbed (each f n)) (9 ∷ f n) ∙ omega (arith, tabbed_length f m n h, h n, suc-mul n (m + 1))

pub row_length : (width : ℕ) (rgb : List ℕ) (k : ℕ) → length (ended (row_line width rgb k ∷ [])) ≡ 7 * width + 2
row_length width rgb k =
    ap length (sym (row_text 82 (each (λ x. pixel rgb (k + x)) width)))
    ∙ length-append (82 ∷ tabbed (each (λ x. pixel rgb (k + x)) width)) (10 ∷ [])
    ∙ omega (arith, tabbed_length (λ x. pixel rgb (k + x)) 6 width (λ i. refl))

pub numbers_length : (letter a b : ℕ) → length (ended (numbers_line letter a b ∷ [])) ≡ 4 + length (decimal a) + length (decimal b)
numbers_length letter a b =
    ap length (sym (row_text letter (decimal a ∷ decimal b ∷ []))) ∙ simp length-append (omega arith)

rows_length : (f : ℕ → List ℕ) (m n : ℕ) → ((i : ℕ) → length (ended (f i ∷ [])) ≡ m) → length (ended (each f n)) ≡ n * m
unfolding each
rows_length f m zero h = omega arith
rows_length f m (suc n) h = ap length (ended_more (each f n) (f n)) ∙ length-append (ended (each f n)) (ended (f n ∷ [])) ∙ omega (arith, rows_length f m n h, h n, suc-mul n m)

pub picture_length : (width height : ℕ) (rgb : List ℕ) → length (picture_text width height rgb) ≡ 4 + length (decimal width) + length (decimal height) + height * (7 * width + 2)
unfolding picture_text
picture_length width height rgb =
    let f : ℕ → List ℕ = λ y. row_line width rgb (y * width) in
    ap length (sym (lines_done (numbers_line 73 width height) f height height refl))
    ∙ length-append (ended (numbers_line 73 width height ∷ [])) (ended (each f height))
    ∙ omega (arith, numbers_length 73 width height, rows_length f (7 * width + 2) height (λ y. row_length width rgb (y * width)))

-- one row more
pub row_more : (y m : ℕ) → (y + 1) * m ≡ y * m + m
row_more y m = rw add-one (suc-mul y m)

-- the line of two sides
pub sides_length : (letter width height : ℕ) → width ≤ 512 → height ≤ 512 → length (ended (numbers_line letter width height ∷ [])) ≤ 10
sides_length letter width height p q = omega (arith, numbers_length letter width height, decimal_length 2 width (omega arith), decimal_length 2 height (omega arith))

-- a picture's text is not longer than its room
pub picture-room : (width height : ℕ) (rgb : List ℕ) → width ≤ 512 → height ≤ 512 → length (picture_text width height rgb) ≤ picture_room width height
picture-room width height rgb p q =
    omega (arith, picture_length width height rgb, numbers_length 73 width height, sides_length 73 width height p q)

-- the larger picture has room for the smaller
pub room_more : (width height m n : ℕ) → width ≤ m → height ≤ n → picture_room width height ≤ picture_room m n
room_more width height m n p q = let l : 7 * width + 2 ≤ 7 * m + 2 = omega arith in omega (arith, mul-le-mul q l)

-- and 13 bytes have room for every refusal
pub refusal_length : (number line : ℕ) → number ≤ 255 → line ≤ 999999 → 4 + length (decimal number) + length (decimal line) ≤ 13
refusal_length number line p q = omega (arith, decimal_length 2 number (omega arith), decimal_length 5 line (omega arith))

pub refusal_room : (number line : ℕ) → number ≤ 255 → line ≤ 999999 → length (refusal_text number line) ≤ 13
unfolding refusal_text
refusal_room number line p q = omega (arith, numbers_length 88 number line, refusal_length number line p q)

-- a letter and two numbers, without the line's end
pub head_length : (letter a b : ℕ) → length (numbers_line letter a b) ≡ 3 + length (decimal a) + length (decimal b)
head_length letter a b = simp length-append (omega arith)

-- the line of two totals, 16 digits each: 43 bytes have room for every one of them
pub step_length : (channel k : ℕ) → channel ≤ 9 → k ≤ 9998 → length (decimal channel) + length (decimal (k + 1)) ≤ 5
step_length channel k p q = omega (arith, decimal_length 0 channel (omega arith), decimal_length 3 (k + 1) (omega arith))

pub head_room : (letter channel k : ℕ) → channel ≤ 9 → k ≤ 9998 → length (numbers_line letter channel (k + 1)) ≤ 8
head_room letter channel k p q = omega (arith, head_length letter channel (k + 1), step_length channel k p q)

pub step_room : (channel k : ℕ) (totals : List Float) → channel ≤ 9 → k ≤ 9998 → length (ended (step_line channel totals k ∷ [])) ≤ 43
step_room channel k totals p q =
    let l : length (ended (step_line channel totals k ∷ [])) ≡ 38 + length (decimal channel) + length (decimal (k + 1)) =
    ap length (sym (totals-text channel (k + 1) (hex_of 16 (to_bits binary64 (get_or totals (k * 2) nan))) (hex_of 16 (to_bits binary64 (get_or totals (k * 2 + 1) nan)))))
    ∙ simp length-append (omega arith) in
    omega (arith, step_length channel k p q)

lines_room : (f : ℕ → List ℕ) (m n : ℕ) → ((i : ℕ) → i < n → length (ended (f i ∷ [])) ≤ m) → length (ended (each f n)) ≤ n * m
unfolding each
lines_room f m zero h = omega arith
lines_room f m (suc n) h =
    let l : length (ended (each f (suc n))) ≡ length (ended (each f n)) + length (ended (f n ∷ [])) =
    ap length (ended_more (each f n) (f n)) ∙ length-append (ended (each f n)) (ended (f n ∷ [])) in
    omega (arith, l, lines_room f m n (λ i p. h i (omega arith)), h n (omega arith), suc-mul n m)

pub totals_room : (channel steps : ℕ) (totals : List Float) → channel ≤ 9 → steps ≤ 9999 → length (totals_text channel steps totals) ≤ steps * 43
unfolding totals_text
totals_room channel steps totals p q = lines_room (step_line channel totals) 43 steps (λ k l. step_room channel k totals p (omega arith))

-- 11 bytes have room for every line of a clipped number, 9 where the number has four digits
pub clipped_length : (channel number : ℕ) → length (clipped_text channel number) ≡ 4 + length (decimal channel) + length (decimal number)
unfolding clipped_text
clipped_length channel number = numbers_length 75 channel number

pub clipped_digits : (channel number : ℕ) → channel ≤ 9 → number ≤ 999999 → 4 + length (decimal channel) + length (decimal number) ≤ 11
clipped_digits channel number p q = omega (arith, decimal_length 0 channel (omega arith), decimal_length 5 number (omega arith))

pub clipped_room : (channel number : ℕ) → channel ≤ 9 → number ≤ 999999 → length (clipped_text channel number) ≤ 11
clipped_room channel number p q = omega (arith, clipped_length channel number, clipped_digits channel number p q)

pub clipped_room_32 : (channel number : ℕ) → channel ≤ 9 → number ≤ 9999 → length (clipped_text channel number) ≤ 9
clipped_room_32 channel number p q =
    omega (arith, clipped_length channel number, decimal_length 0 channel (omega arith), decimal_length 3 number (omega arith))

-- ---- what the calls answer where there is room

pub picture-answer : (width height bytes room : ℕ) → width ≤ 512 → height ≤ 512 → bytes ≡ 3 * (width * height) → picture_room width height ≤ room
    → picture_answer width height bytes room ≡ Ok tt
picture-answer width height bytes room p q e r = rw (le-leb width 512 p, le-leb height 512 q, eq-eqb _ _ e, le-leb _ _ r)

pub refusal-answer : (line room : ℕ) → line ≤ 999999 → 13 ≤ room → refusal_answer line room ≡ Ok tt
refusal-answer line room p q = rw (le-leb line 999999 p, le-leb 13 room q)

pub totals-answer : (channel steps values room : ℕ) → channel ≤ 9 → steps ≤ 9999 → values ≡ steps * 2 → steps * 43 ≤ room
    → totals_answer channel steps values room ≡ Ok tt
totals-answer channel steps values room p q e r = rw (le-leb channel 9 p, le-leb steps 9999 q, eq-eqb values (steps * 2) e, le-leb (steps * 43) room r)

pub clipped-answer : (channel number room : ℕ) → channel ≤ 9 → number ≤ 999999 → 11 ≤ room → clipped_answer channel number room ≡ Ok tt
clipped-answer channel number room p q r = rw (le-leb channel 9 p, le-leb number 999999 q, le-leb 11 room r)

-- ---- what is so where they answer `Ok`

ok_then : (b : Bool) (x : Result Unit Refusal) (r : Refusal) → if b then x else Err r ≡ Ok tt → (b ≡ true) × (x ≡ Ok tt)
ok_then true x r e = (refl, e)
ok_then false x r e = absurd (let z : ◌≡◌ {A = ℕ} 0 1 = cc in omega arith)

pub fits : (width height bytes room : ℕ) → picture_answer width height bytes room ≡ Ok tt
    → (width ≤ 512) × (height ≤ 512) × (bytes ≡ 3 * (width * height)) × (picture_room width height ≤ room)
fits width height bytes room e =
    let a = leb width 512 in
    let b = leb height 512 in
    let c = eqb bytes (3 * (width * height)) in
    let d = leb (picture_room width height) room in
    let f = ok_then (a && b) (if c && d then Ok tt else Err refusal.Length) refusal.Size e in
    let g = ok_then (c && d) (Ok tt) refusal.Length f.1 in
    (leb-true _ _ (both_left a b f.0), leb-true _ _ (both_right a b f.0), eqb-true _ _ (both_left c d g.0), leb-true _ _ (both_right c d g.0))

pub totals_fit : (channel steps values room : ℕ) → totals_answer channel steps values room ≡ Ok tt
    → (channel ≤ 9) × (steps ≤ 9999) × (values ≡ steps * 2) × (steps * 43 ≤ room)
totals_fit channel steps values room e =
    let a = leb channel 9 in
    let b = leb steps 9999 in
    let c = eqb values (steps * 2) in
    let d = leb (steps * 43) room in
    let f = ok_then a _ refusal.Channel e in
    let g = ok_then b _ refusal.Size f.1 in
    let h = ok_then (c && d) (Ok tt) refusal.Length g.1 in
    (leb-true _ _ f.0, leb-true _ _ g.0, eqb-true _ _ (both_left c d h.0), leb-true _ _ (both_right c d h.0))

pub clipped_fit : (channel number room : ℕ) → clipped_answer channel number room ≡ Ok tt → (channel ≤ 9) × (number ≤ 999999) × (11 ≤ room)
clipped_fit channel number room e =
    let f = ok_then (leb channel 9) _ refusal.Channel e in
    let g = ok_then (leb number 999999) _ refusal.Record f.1 in
    let h = ok_then (leb 11 room) (Ok tt) refusal.Length g.1 in
    (leb-true _ _ f.0, leb-true _ _ g.0, leb-true _ _ h.0)

pub refusal_fit : (line room : ℕ) → refusal_answer line room ≡ Ok tt → (line ≤ 999999) × (13 ≤ room)
refusal_fit line room e =
    let f = ok_then (leb line 999999) _ refusal.Size e in
    let g = ok_then (leb 13 room) (Ok tt) refusal.Length f.1 in
    (leb-true _ _ f.0, leb-true _ _ g.0)

-- no product of two sides is too large to compute
pub sides_product : (a b : ℕ) → a ≤ 512 → b ≤ 3586 → a * b ≤ 512 * 3586
sides_product a b p q = mul-le-mul p q

-- What each call leaves where it answers `Ok`, k being the room
module _ (u v : Writer) (k : ℕ) (r : k ≡ room u) (a : Result Unit Refusal) (ok : a ≡ Ok tt) where
  module _ (width height : ℕ) (rgb : List ℕ) (e : a ≡ picture_answer width height (length rgb) k) where
    pub picture_facts : (width ≤ 512) × (height ≤ 512) × (length rgb ≡ 3 * (width * height)) × (picture_room width height ≤ room u)
    picture_facts = let f = fits width height (length rgb) k (sym e ∙ ok) in (f.0, f.1, f.2, omega (arith, r, f.3))

    pub picture_adds : Put u (picture_text width height rgb) v → Adds u (picture_text width height rgb) v
    picture_adds p =
        let f = picture_facts in adds_put p (omega (arith, f.3, picture-room width height rgb f.0 f.1))

  module _ (channel steps : ℕ) (totals : List Float) (e : a ≡ totals_answer channel steps (length totals) k) where
    pub totals_facts : (channel ≤ 9) × (length totals / 2 ≡ steps) × (steps ≤ 9999) × (steps * 43 ≤ room u)
    totals_facts = let f = totals_fit channel steps (length totals) k (sym e ∙ ok) in (f.0, omega (arith, f.2), f.1, omega (arith, r, f.3))

    pub totals_adds : Put u (totals_text channel (length totals / 2) totals) v → Adds u (totals_text channel steps totals) v
    totals_adds p =
        let f = totals_facts in
        adds_put (put_as (ap (λ (n : ℕ). totals_text channel n totals) f.1) p) (omega (arith, f.3, totals_room channel steps totals f.0 f.2))

  module _ (channel number : ℕ) (e : a ≡ clipped_answer channel number k) where
    pub clipped_asks : u.at + (4 + length (decimal channel) + length (decimal number)) ≤ length u.out.now
    clipped_asks =
        let f = clipped_fit channel number k (sym e ∙ ok) in omega (arith, r, f.2, clipped_digits channel number f.0 f.1)

    pub clipped_adds : Put u (ended (numbers_line 75 channel number ∷ [])) v → Adds u (clipped_text channel number) v
    unfolding clipped_text
    clipped_adds p =
        let f = clipped_fit channel number k (sym e ∙ ok) in adds_put p (omega (arith, r, f.2, clipped_room channel number f.0 f.1))

  module _ (number line n : ℕ) (w : n ≡ number) (m : number ≤ 255) (e : a ≡ refusal_answer line k) where
    pub refusal_asks : u.at + (4 + length (decimal n) + length (decimal line)) ≤ length u.out.now
    refusal_asks =
        let f = refusal_fit line k (sym e ∙ ok) in omega (arith, r, f.1, refusal_length n line (omega arith) f.0)

    pub refusal_adds : Put u (ended (numbers_line 88 n line ∷ [])) v → Adds u (refusal_text number line) v
    unfolding refusal_text
    refusal_adds p =
        let f = refusal_fit line k (sym e ∙ ok) in adds_put (rw w at p) (omega (arith, r, f.1, refusal_room number line m f.0))
