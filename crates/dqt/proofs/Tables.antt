-- What storing tables leaves at each destination.
use mathlib.Core.Path.{◌≡◌, refl, sym, ap, ◌∙◌, subst}
use mathlib.Core.List.{List}
use mathlib.Core.Logic.{⊎_elim}
use Prim.Native.Nat.{ℕ, zero, suc, ◌+◌, ◌-◌, ◌*◌, ◌/◌, ◌%◌, ◌<◌}
use native.Mathlib.Nat.{not-suc-le-zero, eq-or-lt_of_le, eq-zero-or-pos, le_of_suc-le-suc}
use native.Mathlib.Omega.{arith}
use lib.ListN.{length}
use lib.Seq.{ext_get_or}
use Rattle.fold.specs.Fold.{upto}
use Rattle.fold.proofs.Parts.{splice-length, part_splice, part_before, part_after, part_at}
use Rattle.answers.proofs.Lists.{listed_length}
use Rattle.zigzag.specs.Zigzag.{to_zigzag}
use Rattle.dqt.specs.Dqt.{val, start, elements, unzigzagged, stored, table_of}

-- four tables are known by each of them
pub same-tables : (xs ys : List ℕ) → length xs ≡ 256 → length ys ≡ 256 → ((d : ℕ) → d < 4 → table_of xs d ≡ table_of ys d) → xs ≡ ys
same-tables xs ys h k e =
    ext_get_or 0 xs ys (h ∙ sym k)
    (λ i l.
    let d = i / 64 in
    let at : d * 64 + i % 64 ≡ i = omega arith in
    let x = part_at xs (d * 64) (d * 64 + 64) (omega arith) (omega arith) (i % 64) 0 (omega arith) in
    let y = part_at ys (d * 64) (d * 64 + 64) (omega arith) (omega arith) (i % 64) 0 (omega arith) in
    ap (val xs) (sym at) ∙ sym x ∙ ap (λ (t : List ℕ). val t (i % 64)) (e d (omega arith)) ∙ y ∙ ap (val ys) at)

module _ (s : List ℕ) (a : ℕ) (tables : List ℕ) (four : length tables ≡ 256) (small : val s a < 4) where
  sized : length (unzigzagged (elements s a)) ≡ val s a * 64 + 64 - val s a * 64
  sized = omega (arith, listed_length (λ p. val (elements s a) (to_zigzag p)) 64)

  pub stored_length : length (stored s a tables) ≡ 256
  stored_length =
      splice-length tables (val s a * 64) (val s a * 64 + 64) (omega arith) (omega arith) (unzigzagged (elements s a)) sized ∙ four

  pub stored_own : table_of (stored s a tables) (val s a) ≡ unzigzagged (elements s a)
  stored_own = part_splice tables (val s a * 64) (val s a * 64 + 64) (omega arith) (omega arith) (unzigzagged (elements s a)) sized

  pub stored_other : (d : ℕ) → d < 4 → (val s a ≡ d → ⊥) → table_of (stored s a tables) d ≡ table_of tables d
  stored_other d h n =
      let ys = unzigzagged (elements s a) in
      let v = val s a in
      ⊎_elim
      (λ z.
      let low : v < d = ⊎_elim (λ e. absurd (n e)) (λ l. l) (eq-or-lt_of_le (omega arith)) in
      part_after 0 tables ys (v * 64) (v * 64 + 64) (d * 64) (d * 64 + 64) (omega arith) (omega arith) sized (omega arith) (omega arith) (omega arith))
      (λ z. part_before 0 tables ys (v * 64) (v * 64 + 64) (d * 64) (d * 64 + 64) (omega arith) (omega arith) sized (omega arith) (omega arith))
      (eq-zero-or-pos (v - d))

module _ (s tables : List ℕ) (four : length tables ≡ 256) where
  abbrev pub after : ℕ → List ℕ
  after n = upto (λ t. stored s (start t)) n tables

  pub after_length : (n : ℕ) → ((t : ℕ) → t < n → val s (start t) < 4) → length (after n) ≡ 256
  unfolding upto
  after_length zero h = four
  after_length (suc n) h = stored_length s (start n) (after n) (after_length n (λ t l. h t (omega arith))) (h n (omega arith))

  module _ (d : ℕ) (k : d < 4) where
    -- a destination that none of the first n tables names
    pub kept : (n : ℕ) → ((t : ℕ) → t < n → val s (start t) < 4) → ((t : ℕ) → t < n → val s (start t) ≡ d → ⊥) → table_of (after n) d ≡ table_of tables d
    unfolding upto
    kept zero h e = refl
    kept (suc n) h e =
        stored_other s (start n) (after n) (after_length n (λ t l. h t (omega arith))) (h n (omega arith)) d k (e n (omega arith))
        ∙ kept n (λ t l. h t (omega arith)) (λ t l. e t (omega arith))

    -- the last of the first n tables that names it
    pub last : (n : ℕ) → ((t : ℕ) → t < n → val s (start t) < 4) → (t : ℕ) → t < n → val s (start t) ≡ d
        → ((u : ℕ) → t < u → u < n → val s (start u) ≡ d → ⊥) → table_of (after n) d ≡ unzigzagged (elements s (start t))
    unfolding upto
    last zero h t l e later = absurd (not-suc-le-zero l)
    last (suc n) h t l e later =
        let size = after_length n (λ u m. h u (omega arith)) in
        ⊎_elim
        (λ i.
        subst (λ (m : ℕ). table_of (stored s (start n) (after n)) d ≡ unzigzagged (elements s (start m))) (sym i)
        (subst (λ (m : ℕ). table_of (stored s (start n) (after n)) m ≡ unzigzagged (elements s (start n))) (ap (λ (m : ℕ). val s (start m)) (sym i) ∙ e)
        (stored_own s (start n) (after n) size (h n (omega arith)))))
        (λ i.
        stored_other s (start n) (after n) size (h n (omega arith)) d k (later n i (omega arith))
        ∙ last n (λ u m. h u (omega arith)) t i e (λ u m o. later u m (omega arith)))
        (eq-or-lt_of_le (le_of_suc-le-suc l))
