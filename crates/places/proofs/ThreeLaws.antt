-- Three sheets side by side: the first two first, or the last two.
use Prim.Native.Nat.{ℕ, ◌+◌, ◌*◌, ◌/◌, ◌≤◌}
use mathlib.Core.Path.{◌≡◌, refl, sym, ap, ◌∙◌, subst}
use mathlib.Core.List.{List, [], ◌∷◌, ◌++◌, append_assoc}
use native.Mathlib.Omega.{arith}
use native.Mathlib.Nat.{add_assoc}
use lib.ListN.{length, take, drop, take-append-drop}
use lib.Seq.{take_all, drop_at}
use Rattle.contents.specs.declared.Channel.{Channel}
use Rattle.contents.specs.declared.Sheet.{Sheet}
use Rattle.contents.specs.declared.Mark.{Mark}
use Rattle.contents.specs.Sheets.{lent, Marked, Held, held, channel_at, channels_of}
use Rattle.grammar.specs.Written.{drop_held, written}
use Rattle.contents.specs.Marks.{blocks_in, block_of}
use Rattle.stitch.specs.Stitched.{besides, stitched_sheet, rows_in, columns_in, weave, woven, woven_held, moved_by, stitched_marks, stitched_held}
use Rattle.stitch.proofs.WeaveLaws.{weave_length, weave_front, weave_both}
use Rattle.stitch.proofs.BlockLaws.{once}
use Rattle.stitch.proofs.MarkTextLaws.{kept, kept_both}
use Rattle.stitch.proofs.TextLaws.{AllBeside, HeldFor, InUse, Pair, in_use, pairs_of, left_blocks, right_blocks, both_blocks}

-- enough values, u for each block
abbrev pub Long : {A : Type 0} → ℕ → List Channel → List A → Type 0
Long u [] xs = Unit {0}
Long u (c ∷ cs) xs = (u * blocks_in c ≤ length xs) × Long u cs (drop (u * blocks_in c) xs)

-- The sheets but for what they hold are the same either way: widths are summed, all else is the first sheet's

besides_both : (c d e : Channel) → besides (besides c d) e ≡ besides c (besides d e)
besides_both c d e = λ i. record { width = add_assoc c.width d.width e.width i; height = c.height; across = c.across; down = c.down }

pub pairs_both : (cs ds es : List Channel) → pairs_of (pairs_of cs ds) es ≡ pairs_of cs (pairs_of ds es)
pairs_both [] ds es = refl
pairs_both (c ∷ cs) [] es = refl
pairs_both (c ∷ cs) (d ∷ ds) [] = refl
pairs_both (c ∷ cs) (d ∷ ds) (e ∷ es) = λ i. besides_both c d e i ∷ pairs_both cs ds es i

module _ {A : Type 0} where
  -- what follows the rows doesn't count
  only : (n a b : ℕ) (xs ys R : List A) → length xs ≡ n * a → n * b ≤ length ys → weave n a b (xs ++ R) ys ≡ weave n a b xs ys
  only n a b xs ys R e h =
      let p : xs ≡ take (n * a) xs = sym (take_all (n * a) xs (omega arith)) in
      (λ i. weave n a b (p i ++ R) (sym (take-append-drop (n * b) ys) i)) ∙ weave_front n a b xs ys R (drop (n * b) ys) (omega arith) h

  only_right : (n a b : ℕ) (xs ys R : List A) → n * a ≤ length xs → length ys ≡ n * b → weave n a b xs (ys ++ R) ≡ weave n a b xs ys
  only_right n a b xs ys R h e =
      let p : ys ≡ take (n * b) ys = sym (take_all (n * b) ys (omega arith)) in
      (λ i. weave n a b (sym (take-append-drop (n * a) xs) i) (p i ++ R)) ∙ weave_front n a b xs ys (drop (n * a) xs) R h (omega arith)

  -- numbers alone: r rows of a, b and q blocks
  module _ (u r a b q : ℕ) (xs ys zs R S : List A) (i : r * (u * a) ≤ length xs) (j : r * (u * b) ≤ length ys) (k : r * (u * q) ≤ length zs) where
    first_long : length (weave r (u * a) (u * b) xs ys) ≡ r * (u * (a + b))
    first_long = weave_length r (u * a) (u * b) xs ys i j ∙ omega arith

    last_long : length (weave r (u * b) (u * q) ys zs) ≡ r * (u * (b + q))
    last_long = weave_length r (u * b) (u * q) ys zs j k ∙ omega arith

    three_rows : weave r (u * (a + b)) (u * q) (weave r (u * a) (u * b) xs ys ++ R) zs ≡ weave r (u * a) (u * (b + q)) xs (weave r (u * b) (u * q) ys zs ++ S)
    three_rows =
        let x : u * (a + b) ≡ u * a + u * b = omega arith in
        let y : u * b + u * q ≡ u * (b + q) = omega arith in
        only r (u * (a + b)) (u * q) (weave r (u * a) (u * b) xs ys) zs R first_long k
        ∙ ap (λ (n : ℕ). weave r n (u * q) (weave r (u * a) (u * b) xs ys) zs) x
        ∙ weave_both r (u * a) (u * b) (u * q) xs ys zs i j k
        ∙ ap (λ (n : ℕ). weave r (u * a) n xs (weave r (u * b) (u * q) ys zs)) y
        ∙ sym (only_right r (u * a) (u * (b + q)) xs (weave r (u * b) (u * q) ys zs) S i last_long)

  -- "the left sheet's blocks first in each row of blocks", of three sheets in either order
  pub woven_both : (u : ℕ) (cs ds es : List Channel) (xs ys zs : List A) → AllBeside cs ds → AllBeside ds es → Long u cs xs → Long u ds ys → Long u es zs
      → woven u (pairs_of cs ds) es (woven u cs ds xs ys) zs ≡ woven u cs (pairs_of ds es) xs (woven u ds es ys zs)
  woven_both u [] ds es xs ys zs f g i j k = refl
  woven_both u (c ∷ cs) [] es xs ys zs f g i j k = absurd f
  woven_both u (c ∷ cs) (d ∷ ds) [] xs ys zs f g i j k = absurd g
  woven_both u (c ∷ cs) (d ∷ ds) (e ∷ es) xs ys zs f g i j k =
      let r = rows_in c in
      let a = columns_in c in
      let b = columns_in d in
      let q = columns_in e in
      let t : rows_in d ≡ r = ap (λ (h : ℕ). h / 8) (sym f.0.same) in
      let A1 : u * blocks_in c ≡ r * (u * a) = ap (λ (n : ℕ). u * n) (left_blocks c d f.0) ∙ omega arith in
      let A2 : u * blocks_in d ≡ r * (u * b) = ap (λ (n : ℕ). u * n) (right_blocks c d f.0) ∙ omega arith in
      let A3 : u * blocks_in e ≡ r * (u * q) = ap (λ (n : ℕ). u * n) (right_blocks d e g.0 ∙ ap (λ (n : ℕ). n * q) t) ∙ omega arith in
      let B1 : u * blocks_in (besides c d) ≡ r * (u * (a + b)) = ap (λ (n : ℕ). u * n) (both_blocks c d f.0) ∙ omega arith in
      let B2 : u * blocks_in (besides d e) ≡ r * (u * (b + q)) = ap (λ (n : ℕ). u * n) (both_blocks d e g.0 ∙ ap (λ (n : ℕ). n * (b + q)) t) ∙ omega arith in
      let C1 : columns_in (besides c d) ≡ a + b = omega (arith, f.0.left, f.0.right) in
      let C2 : columns_in (besides d e) ≡ b + q = omega (arith, g.0.left, g.0.right) in
      let W1 = weave r (u * a) (u * b) xs ys in
      let W2 = weave r (u * b) (u * q) ys zs in
      let R1 = woven u cs ds (drop (u * blocks_in c) xs) (drop (u * blocks_in d) ys) in
      let R2 = woven u ds es (drop (u * blocks_in d) ys) (drop (u * blocks_in e) zs) in
      let p : r * (u * a) ≤ length xs = omega (arith, i.0, A1) in
      let o : r * (u * b) ≤ length ys = omega (arith, j.0, A2) in
      let v : r * (u * q) ≤ length zs = omega (arith, k.0, A3) in
      let D1 : drop (u * blocks_in (besides c d)) (W1 ++ R1) ≡ R1 = drop_at W1 R1 (u * blocks_in (besides c d)) (first_long u r a b q xs ys zs R1 R2 p o v ∙ sym B1) in
      let D2 : drop (u * blocks_in (besides d e)) (W2 ++ R2) ≡ R2 = drop_at W2 R2 (u * blocks_in (besides d e)) (last_long u r a b q xs ys zs R1 R2 p o v ∙ sym B2) in
      let D3 : drop (u * blocks_in (besides d e)) (weave (rows_in d) (u * b) (u * q) ys zs ++ R2) ≡ R2 = ap (λ (n : ℕ). drop (u * blocks_in (besides d e)) (weave n (u * b) (u * q) ys zs ++ R2)) t ∙ D2 in
      (λ s. weave r (u * C1 s) (u * q) (W1 ++ R1) zs ++ woven u (pairs_of cs ds) es (D1 s) (drop (u * blocks_in e) zs))
      ∙ (λ s. three_rows u r a b q xs ys zs R1 R2 p o v s
      ++ woven_both u cs ds es (drop (u * blocks_in c) xs) (drop (u * blocks_in d) ys) (drop (u * blocks_in e) zs) f.1 g.1 i.1 j.1 k.1 s)
      ∙ (λ s. weave r (u * a) (u * sym C2 s) xs (weave (sym t s) (u * b) (u * q) ys zs ++ R2) ++ woven u cs (pairs_of ds es) (drop (u * blocks_in c) xs) (sym D3 s))

-- Whole sheets

-- with these marks
abbrev marking : Held → List Marked → Held
marking h ms = held h.lent h.ranged ms

pub long_lows : (cs : List Channel) (h : Held) → HeldFor cs h → Long 64 cs h.lent.lows
long_lows [] h u = tt
long_lows (c ∷ cs) h u = (u.0.lows, long_lows cs (drop_held (blocks_in c) 64 h) u.1)

pub long_highs : (cs : List Channel) (h : Held) → HeldFor cs h → Long 64 cs h.lent.highs
long_highs [] h u = tt
long_highs (c ∷ cs) h u = (u.0.highs, long_highs cs (drop_held (blocks_in c) 64 h) u.1)

long_kinds : (cs : List Channel) (h : Held) → HeldFor cs h → Long 1 cs h.ranged
long_kinds [] h u = tt
long_kinds (c ∷ cs) h u =
    let n : 1 * blocks_in c ≤ length h.ranged = omega (arith, u.0.kinds, once (blocks_in c)) in
    (n, subst (λ (m : ℕ). Long 1 cs (drop m h.ranged)) (sym (once (blocks_in c))) (long_kinds cs (drop_held (blocks_in c) 64 h) u.1))

sheet_both : (s t v : Sheet) → stitched_sheet (stitched_sheet s t) v ≡ stitched_sheet s (stitched_sheet t v)
sheet_both s t v =
    λ i. record {
      header =
          record {
            width = add_assoc s.header.width t.header.width v.header.width i;
            height = s.header.height;
            picture_width = add_assoc s.header.picture_width t.header.picture_width v.header.picture_width i;
            picture_height = s.header.picture_height;
            channels = s.header.channels;
            joint = s.header.joint;
            iterations = s.header.iterations;
            smoothing = s.header.smoothing;
            data_weights = s.header.data_weights;
          };
      settings = s.settings;
      channels = beside 0 i ∷ beside 1 i ∷ beside 2 i ∷ [];
    }
  where
    beside : (c : ℕ) → besides (besides (channel_at s c) (channel_at t c)) (channel_at v c) ≡ besides (channel_at s c) (besides (channel_at t c) (channel_at v c))
    beside c = besides_both (channel_at s c) (channel_at t c) (channel_at v c)

-- Marks: those of the third are moved by both

moved_twice : (s t : Sheet) → ((c : ℕ) → columns_in (channel_at (stitched_sheet s t) c) ≡ columns_in (channel_at s c) + columns_in (channel_at t c)) → (m : Mark)
    → moved_by (stitched_sheet s t) m ≡ moved_by s (moved_by t m)
moved_twice s t w m =
    let e : columns_in (channel_at (stitched_sheet s t) m.channel) + m.column ≡ columns_in (channel_at s m.channel) + (columns_in (channel_at t m.channel) + m.column) = omega (arith, w m.channel) in
    λ i. record { channel = m.channel; row = m.row; column = e i }

kept_again : (f g : Mark → Mark) (a b : Sheet) (ms : List Marked) → kept f b (kept g a ms) ≡ kept (λ m. f (g m)) b ms
kept_again f g a b [] = refl
kept_again f g a b (m ∷ ms) = ap (λ (l : List Marked). record { at = f (g m.at); block = block_of b (f (g m.at)) } ∷ l) (kept_again f g a b ms)

kept_same : (f g : Mark → Mark) → ((m : Mark) → f m ≡ g m) → (b : Sheet) (ms : List Marked) → kept f b ms ≡ kept g b ms
kept_same f g e b [] = refl
kept_same f g e b (m ∷ ms) = λ i. record { at = e m.at i; block = block_of b (e m.at i) } ∷ kept_same f g e b ms i

marks_both : (s t v : Sheet) (ms ns os : List Marked) → ((c : ℕ) → columns_in (channel_at (stitched_sheet s t) c) ≡ columns_in (channel_at s c) + columns_in (channel_at t c))
    → stitched_marks (stitched_sheet s t) v (stitched_marks s t ms ns) os ≡ stitched_marks s (stitched_sheet t v) ms (stitched_marks t v ns os)
marks_both s t v ms ns os w =
    let a = stitched_sheet s t in
    let b = stitched_sheet t v in
    let X = stitched_sheet a v in
    let Y = stitched_sheet s b in
    let A = kept (λ m. m) Y ms in
    let B = kept (moved_by s) Y ns in
    let C = kept (λ m. moved_by s (moved_by t m)) Y os in
    (λ i. kept (λ m. m) (sheet_both s t v i) (kept (λ m. m) a ms ++ kept (moved_by s) a ns) ++ kept (moved_by a) (sheet_both s t v i) os)
    ∙ (λ i. kept_both (λ m. m) Y (kept (λ m. m) a ms) (kept (moved_by s) a ns) i ++ kept_same (moved_by a) (λ m. moved_by s (moved_by t m)) (moved_twice s t w) Y os i)
    ∙ (λ i. (kept_again (λ m. m) (λ m. m) a Y ms i ++ kept_again (λ m. m) (moved_by s) a Y ns i) ++ C)
    ∙ append_assoc A B C
    ∙ (λ i. A ++ (sym (kept_again (moved_by s) (λ m. m) b Y ns) i ++ sym (kept_again (moved_by s) (moved_by t) b Y os) i))
    ∙ ap (λ (l : List Marked). A ++ l) (sym (kept_both (moved_by s) Y (kept (λ m. m) b ns) (kept (moved_by t) b os)))

-- "stitching is associative where the seams fit": three sheets give the same text in either order,
-- of as many channels as their headers say
pub either_in_use : (s t v : Sheet) (h k g : Held) → InUse s t h k → InUse t v k g
    → written (stitched_sheet (stitched_sheet s t) v) (stitched_held (stitched_sheet s t) v (stitched_held s t h k) g)
    ≡ written (stitched_sheet s (stitched_sheet t v)) (stitched_held s (stitched_sheet t v) h (stitched_held t v k g))
either_in_use s t v h k g p q =
    let cs = channels_of s in
    let ds = channels_of t in
    let es = channels_of v in
    let lows = woven_both 64 cs ds es h.lent.lows k.lent.lows g.lent.lows p.beside q.beside (long_lows cs h p.held_left) (long_lows ds k q.held_left) (long_lows es g q.held_right) in
    let highs = woven_both 64 cs ds es h.lent.highs k.lent.highs g.lent.highs p.beside q.beside (long_highs cs h p.held_left) (long_highs ds k q.held_left) (long_highs es g q.held_right) in
    let kinds = woven_both 1 cs ds es h.ranged k.ranged g.ranged p.beside q.beside (long_kinds cs h p.held_left) (long_kinds ds k q.held_left) (long_kinds es g q.held_right) in
    let first = stitched_marks (stitched_sheet s t) v (stitched_marks s t h.marks k.marks) g.marks in
    let last = stitched_marks s (stitched_sheet t v) h.marks (stitched_marks t v k.marks g.marks) in
    (λ i. written (sheet_both s t v i) (marking (woven_held (p.both i) es (woven_held cs ds h k) g) first))
    ∙ (λ i. written (stitched_sheet s (stitched_sheet t v)) (held (lent (lows i) (highs i) h.lent.tables) (kinds i) (marks_both s t v h.marks k.marks g.marks p.columns i)))
    ∙ (λ i. written (stitched_sheet s (stitched_sheet t v)) (marking (woven_held cs (sym q.both i) h (woven_held ds es k g)) last))

-- and where the code looks at those channels
pub either_first : (s t v : Sheet) (h k g : Held) → Pair s t h k → Pair t v k g
    → written (stitched_sheet (stitched_sheet s t) v) (stitched_held (stitched_sheet s t) v (stitched_held s t h k) g)
    ≡ written (stitched_sheet s (stitched_sheet t v)) (stitched_held s (stitched_sheet t v) h (stitched_held t v k g))
either_first s t v h k g p q = either_in_use s t v h k g (in_use s t h k p) (in_use t v k g q)
