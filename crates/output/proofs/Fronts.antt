-- Texts written to a lent buffer, one after the other.
use mathlib.Core.Path.{◌≡◌, refl, sym, ap, ◌∙◌, subst}
use mathlib.Core.List.{List, [], ◌∷◌, ◌++◌, append_assoc}
use Prim.Native.Nat.{ℕ, ◌+◌, ◌-◌, ◌≤◌}
use native.Mathlib.Omega.{arith}
use lib.ListN.{length, take, drop, length-append, length-drop, take-append-drop}
use lib.Seq.{sets, sets-eq, length-take-le, take_at, drop_at, drop-drop}
use Rattle.std.specs.Prelude.{Result, Ok, IsOk}
use Rattle.refusal.specs.declared.Refusal.{Refusal}
use Rattle.copying.specs.declared.Writer.{Writer}
use Rattle.copying.specs.Parts.{Put}
use Rattle.output.specs.Output.{Wrote, Adds, room}

module _ {a k : ℕ} {s xs x : List ℕ} (w : Wrote a s xs k x) (h : k ≤ length xs) where
  long : length (take a xs ++ s) ≡ k
  long = length-append (take a xs) s ∙ omega (arith, length-take-le a xs (omega (arith, w.count)), w.count)

  seam : x ≡ (take a xs ++ s) ++ drop k xs
  seam = w.bytes ∙ sym (append_assoc (take a xs) s (drop k xs))

  -- a buffer keeps its length
  pub wrote_length : length x ≡ length xs
  wrote_length = ap length seam ∙ length-append (take a xs ++ s) (drop k xs) ∙ omega (arith, long, length-drop k xs)

  -- a text after a text
  pub wrote_more : {t y : List ℕ} {n : ℕ} → Wrote k t x n y → Wrote a (s ++ t) xs n y
  wrote_more {t} {y} {n} v =
      let f : take k x ≡ take a xs ++ s = ap (take k) seam ∙ take_at (take a xs ++ s) (drop k xs) k long in
      let b : drop k x ≡ drop k xs = ap (drop k) seam ∙ drop_at (take a xs ++ s) (drop k xs) k long in
      let r : drop n x ≡ drop n xs = rw (v.count, ← drop-drop (length t) k x, b, drop-drop) refl in
      record {
        count = simp length-append (omega (arith, w.count, v.count));
        bytes = v.bytes ∙ rw (f, r, append_assoc, append_assoc);
      }

pub wrote_none : (a : ℕ) (xs : List ℕ) → Wrote a [] xs a xs
wrote_none a xs = record { count = omega arith; bytes = sym (take-append-drop a xs) }

-- a text that was put where there is room
put_part : (text before : List ℕ) (at : ℕ) → length text ≤ length before - at → sets before at text ≡ take at before ++ (text ++ drop (at + length text) before)
put_part [] before at h = let e : at + 0 ≡ at = omega arith in rw e (sym (take-append-drop at before))
put_part (x ∷ text) before at h =
    sets-eq (x ∷ text) before at (omega arith) ∙ append_assoc (take at before) (x ∷ text) (drop (at + length (x ∷ text)) before)

pub wrote_put : {at r : ℕ} {text before after : List ℕ} → r ≡ at + length text → after ≡ sets before at text → length text ≤ length before - at → Wrote at text before r after
wrote_put {at} {r} {text} {before} {after} n e h =
    record { count = n; bytes = e ∙ put_part text before at h ∙ ap (λ (k : ℕ). take at before ++ (text ++ drop k before)) (sym n) }

-- the same text, spelt in another way
pub wrote_as : {a k : ℕ} {s t xs x : List ℕ} → s ≡ t → Wrote a s xs k x → Wrote a t xs k x
wrote_as e w = rw e at w

-- at the front: the first r bytes are the text
pub wrote_front : {s xs x : List ℕ} {k : ℕ} → Wrote 0 s xs k x → take k x ≡ s
wrote_front {s} {xs} {x} {k} w = ap (take k) w.bytes ∙ take_at s (drop k xs) k (omega (arith, w.count))

-- and they lie within the buffer, which keeps its length
pub wrote_within : {s xs x : List ℕ} {k : ℕ} → Wrote 0 s xs k x → length x ≡ length xs → k ≤ length xs
wrote_within {s} {xs} {x} {k} w h =
    omega (arith, w.count, ap length w.bytes ∙ length-append s (drop k xs), length-drop k xs)

-- the same of a lent output: nothing; a text that was put where there is room; a text after a text
pub adds_none : (w : Writer) → Adds w [] w
adds_none w = record { wrote = wrote_none w.at w.out.now; same = refl }

pub adds_put : {u v : Writer} {text : List ℕ} → Put u text v → length text ≤ room u → Adds u text v
adds_put p h = record { wrote = wrote_put p.next p.last h; same = p.same }

pub adds_more : {u v w : Writer} {s t : List ℕ} → v.at ≤ length u.out.now → Adds u s v → Adds v t w → Adds u (s ++ t) w
adds_more h a b = record { wrote = wrote_more a.wrote h b.wrote; same = b.same ∙ a.same }

pub adds_as : {u v : Writer} {s t : List ℕ} → s ≡ t → Adds u s v → Adds u t v
adds_as e a = rw e at a

-- a call that answers as one that is `Ok` is not refused
pub said_ok : {a b : Result Unit Refusal} → a ≡ b → b ≡ Ok tt → IsOk a
said_ok p q = subst IsOk (sym (p ∙ q)) refl
