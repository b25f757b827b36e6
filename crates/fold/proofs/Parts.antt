-- Parts of a list and lists with a part replaced: lengths, and what stands where.
use mathlib.Core.Path.{◌≡◌, ap, ◌∙◌, sym}
use mathlib.Core.List.{List, ◌++◌}
use Prim.Native.Nat.{ℕ, ◌+◌, ◌-◌, ◌<◌, ◌≤◌}
use native.Mathlib.Omega.{arith}
use lib.ListN.{length, take, drop, get_or, length-take, length-drop, length-append, get_or-append}
use lib.Seq.{length-take-le, get_or-take, get_or-drop, take_at, drop_at, get_or-append-add, ext_get_or}
use Rattle.fold.specs.Part.{part, splice}

module _ {ℓ} {A : Type ℓ} where
  module _ (xs : List A) (a e : ℕ) (h : a ≤ e) (k : e ≤ length xs) where
    pub part_length : length (part xs a e) ≡ e - a
    part_length = simp (length-take, length-drop) (omega arith)

    pub part_at : (i : ℕ) (d : A) → i < e - a → get_or (part xs a e) i d ≡ get_or xs (a + i) d
    part_at i d l = rw (get_or-take, get_or-drop)

    module _ (ys : List A) (l : length ys ≡ e - a) where
      pub splice-length : length (splice xs a e ys) ≡ length xs
      splice-length = simp (length-append, length-take, length-drop) (omega arith)

      -- the part of what was put there
      pub part_splice : part (splice xs a e ys) a e ≡ ys
      part_splice = rw (drop_at (take a xs) (ys ++ drop (e - a) (drop a xs)) a (length-take-le a xs (omega arith))) (take_at ys (drop (e - a) (drop a xs)) (e - a) l)

      -- what stands before the part and after it
      pub splice_before : (i : ℕ) (d : A) → i < a → get_or (splice xs a e ys) i d ≡ get_or xs i d
      splice_before i d m =
          get_or-append (take a xs) (ys ++ drop (e - a) (drop a xs)) d i (rw (length-take-le a xs (omega arith)) m) ∙ get_or-take a xs i d m

      pub splice_in : (i : ℕ) (d : A) → i < e - a → get_or (splice xs a e ys) (a + i) d ≡ get_or ys i d
      splice_in i d m =
          let n : length (take a xs) ≡ a = length-take-le a xs (omega arith) in
          ap (λ (b : ℕ). get_or (splice xs a e ys) (b + i) d) (sym n) ∙ get_or-append-add (take a xs) (ys ++ drop (e - a) (drop a xs)) i d
          ∙ get_or-append ys (drop (e - a) (drop a xs)) d i (omega arith)

      pub splice_after : (i : ℕ) (d : A) → get_or (splice xs a e ys) (e + i) d ≡ get_or xs (e + i) d
      splice_after i d =
          let n : length (take a xs) ≡ a = length-take-le a xs (omega arith) in
          let rest = drop (e - a) (drop a xs) in
          let to : length (take a xs) + (length ys + i) ≡ e + i = omega arith in
          let back : a + (e - a + i) ≡ e + i = omega arith in
          ap (λ (b : ℕ). get_or (splice xs a e ys) b d) (sym to) ∙ get_or-append-add (take a xs) (ys ++ rest) (length ys + i) d
          ∙ get_or-append-add ys rest i d ∙ get_or-drop (e - a) (drop a xs) i d ∙ get_or-drop a xs (e - a + i) d ∙ ap (λ (b : ℕ). get_or xs b d) back

  -- a part that ends before the one that was replaced, or starts after it, is as it was: another channel's, say
  pub part_before : (d : A) (xs ys : List A) (a e b f : ℕ) → a ≤ e → e ≤ length xs → length ys ≡ e - a → b ≤ f → f ≤ a → part (splice xs a e ys) b f ≡ part xs b f
  part_before d xs ys a e b f h k l u v =
      let n = splice-length xs a e h k ys l in
      let s : length (part (splice xs a e ys) b f) ≡ f - b = part_length (splice xs a e ys) b f u (omega arith) in
      let t : length (part xs b f) ≡ f - b = part_length xs b f u (omega arith) in
      ext_get_or d (part (splice xs a e ys) b f) (part xs b f) (s ∙ sym t)
      (λ i o.
      part_at (splice xs a e ys) b f u (omega arith) i d (omega arith) ∙ splice_before xs a e h k ys l (b + i) d (omega arith)
      ∙ sym (part_at xs b f u (omega arith) i d (omega arith)))

  pub part_after : (d : A) (xs ys : List A) (a e b f : ℕ) → a ≤ e → e ≤ length xs → length ys ≡ e - a → b ≤ f → e ≤ b → f ≤ length xs → part (splice xs a e ys) b f ≡ part xs b f
  part_after d xs ys a e b f h k l u v w =
      let n = splice-length xs a e h k ys l in
      let s : length (part (splice xs a e ys) b f) ≡ f - b = part_length (splice xs a e ys) b f u (omega arith) in
      let t : length (part xs b f) ≡ f - b = part_length xs b f u (omega arith) in
      ext_get_or d (part (splice xs a e ys) b f) (part xs b f) (s ∙ sym t)
      (λ i o.
      let at : e + (b - e + i) ≡ b + i = omega arith in
      part_at (splice xs a e ys) b f u (omega arith) i d (omega arith)
      ∙ rw at at (splice_after xs a e h k ys l (b - e + i) d) ∙ sym (part_at xs b f u (omega arith) i d (omega arith)))
