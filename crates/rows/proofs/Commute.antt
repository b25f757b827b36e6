-- Steps that commute, and loops of them taken apart: a loop of two steps is two loops, where no step of the tgv_differences kind has to
-- come before a later one of the first.
use mathlib.Core.Path.{◌≡◌, refl, ap, ◌∙◌, sym}
use mathlib.Core.Logic.{◌≢◌}
use mathlib.Core.Bool.{Bool, true, false, cond, ◌||◌}
use mathlib.Core.List.{List}
use Prim.Native.Nat.{ℕ, zero, suc, ◌+◌, ◌<◌}
use native.Mathlib.Nat.{le_refl}
use native.Mathlib.Omega.{arith}
use lib.ListN.{set}
use lib.Seq.{get_or-set_other, set_comm}
use lib.Ieee.{Float, nan, eq}
use Rattle.fold.specs.Fold.{upto}
use Rattle.fold.proofs.Loops.{upto_ext, upto_add}
use Rattle.float.specs.Ops.{fused}
use Rattle.float.specs.Names.{◌⊘◌, f0, val}
use Rattle.gradients.specs.Tv.{bump, bump_unless}
use Rattle.rows.specs.Rows.{hit}

-- ---- any steps
module _ {A : Type 0} where
  abbrev pub Comm : (A → A) → (A → A) → Type 0
  Comm f g = (s : A) → f (g s) ≡ g (f s)

  pub comm_sym : (f g : A → A) → Comm f g → Comm g f
  comm_sym f g p s = sym (p s)

  pub comm_then : (f g h : A → A) → Comm f g → Comm f h → Comm f (λ s. h (g s))
  comm_then f g h p q s = q (g s) ∙ ap h (p s)

  pub comm_upto : (f : A → A) (g : ℕ → A → A) (n : ℕ) → ((k : ℕ) → k < n → Comm f (g k)) → Comm f (upto g n)
  unfolding upto
  comm_upto f g zero h s = refl
  comm_upto f g (suc n) h s = h n (le_refl (suc n)) (upto g n s) ∙ ap (g n) (comm_upto f g n (λ k l. h k (omega arith)) s)

  -- the loop of two steps as two loops
  pub apart : (f g : ℕ → A → A) (n : ℕ) → ((i j : ℕ) → i < j → j < n → Comm (f j) (g i)) → (s : A)
      → upto (λ k t. g k (f k t)) n s ≡ upto g n (upto f n s)
  unfolding upto
  apart f g zero h s = refl
  apart f g (suc n) h s =
      ap (λ (t : A). g n (f n t)) (apart f g n (λ i j l m. h i j l (omega arith)) s)
      ∙ ap (g n) (comm_upto (f n) g n (λ k l. h k n l (le_refl (suc n))) (upto f n s))

  idle : (m : ℕ) (s : A) → upto (λ x t. t) m s ≡ s
  unfolding upto
  idle zero s = refl
  idle (suc m) s = idle m s

  -- columns first or channels first
  pub turned : (F : ℕ → ℕ → A → A) (m n : ℕ) → ((c d x z : ℕ) → c < d → d < n → x < m → z < m → Comm (F c x) (F d z)) → (s : A)
      → upto (λ x. upto (λ c. F c x) n) m s ≡ upto (λ c. upto (F c) m) n s
  unfolding upto
  turned F m zero h s = idle m s
  turned F m (suc n) h s =
      apart (λ x. upto (λ c. F c x) n) (F n) m
      (λ i j l b. comm_sym (F n i) (upto (λ c. F c j) n) (comm_upto (F n i) (λ c. F c j) n (λ c k. comm_sym (F c j) (F n i) (h c n j i k (le_refl (suc n)) b (omega arith))))) s
      ∙ ap (upto (F n) m) (turned F m n (λ c d x z l k. h c d x z l (omega arith)) s)

  -- steps that do nothing
  pub upto_idle : (f : ℕ → A → A) (n : ℕ) → ((x : ℕ) → x < n → (t : A) → f x t ≡ t) → (s : A) → upto f n s ≡ s
  upto_idle f n h s = upto_ext f (λ x t. t) n s (λ k t l. h k l t) ∙ idle n s

  -- a last or a first turn that does nothing
  pub upto_last : (f g : ℕ → A → A) (v w : ℕ) (s : A) → w ≡ suc v → ((t : A) → g v t ≡ t) → ((x : ℕ) → x < v → (t : A) → f x t ≡ g x t) → upto f v s ≡ upto g w s
  unfolding upto
  upto_last f g v w s p e h = rw p (upto_ext f g v s (λ k t l. h k l t) ∙ sym (e (upto g v s)))

  pub upto_first : (f g : ℕ → A → A) (v w : ℕ) (s : A) → w ≡ 1 + v → ((t : A) → g 0 t ≡ t) → ((x : ℕ) → x < v → (t : A) → f x t ≡ g (1 + x) t) → upto f v s ≡ upto g w s
  unfolding upto
  upto_first f g v w s p e h = rw p (upto_ext f (λ k. g (1 + k)) v s (λ k t l. h k l t) ∙ ap (upto (λ k. g (1 + k)) v) (sym (e s)) ∙ sym (upto_add g 1 v s))

  -- three steps, or four
  pub comm_3 : (f g h i : A → A) → Comm f g → Comm f h → Comm f i → Comm f (λ s. i (h (g s)))
  comm_3 f g h i p q r s = r (h (g s)) ∙ ap i (q (g s) ∙ ap h (p s))

  pub comm_4 : (f g h i j : A → A) → Comm f g → Comm f h → Comm f i → Comm f j → Comm f (λ s. j (i (h (g s))))
  comm_4 f g h i j p q r u s = u (i (h (g s))) ∙ ap j (comm_3 f g h i p q r s)

-- ---- changes at different places
change_comm : (a q b p : Float) (k j : ℕ) → k ≢ j
    → Comm (λ (g : List Float). set g k (fused a q (val g k))) (λ (g : List Float). set g j (fused b p (val g j)))
change_comm a q b p k j n g =
    let u = fused b p (val g j) in
    let v = fused a q (val g k) in
    ap (λ (z : Float). set (set g j u) k (fused a q z)) (get_or-set_other g j k u nan n)
    ∙ set_comm g j k u v (λ e. n (sym e))
    ∙ ap (λ (z : Float). set (set g k v) j (fused b p z)) (sym (get_or-set_other g k j v nan (λ e. n (sym e))))

pub hit_comm : (e d : Bool) (a n q b m p : Float) (k j : ℕ) → (e ≡ false → d ≡ false → k ≢ j) → Comm (hit e a n q k) (hit d b m p j)
unfolding hit
hit_comm e d a n q b m p k j h = go (eq n f0) e (eq m f0) d h
  where
    go : (x e y d : Bool) → (e ≡ false → d ≡ false → k ≢ j)
        → Comm (λ g. cond (x || e) g (set g k (fused a q (val g k)))) (λ g. cond (y || d) g (set g j (fused b p (val g j))))
    go true e y d h g = refl
    go false true y d h g = refl
    go false false true d h g = refl
    go false false false true h g = refl
    go false false false false h g = change_comm a q b p k j (h refl refl) g

-- a change that an edge rules out
pub hit_edge : (e : Bool) (a n q : Float) (k : ℕ) (g : List Float) → e ≡ true → hit e a n q k g ≡ g
unfolding hit
hit_edge e a n q k g h = rw h (go (eq n f0))
  where
    go : (b : Bool) → cond (b || true) g (set g k (fused a q (val g k))) ≡ g
    go true = refl
    go false = refl

-- where the norm is 0 nothing changes, and else it is the change of tv.rs and tgv.rs
pub hit_off : (e : Bool) (a n q : Float) (k : ℕ) (g : List Float) → eq n f0 ≡ true → hit e a n q k g ≡ g
unfolding hit
hit_off e a n q k g h = rw h

pub hit_on : (e : Bool) (a n v : Float) (k : ℕ) (g : List Float) → eq n f0 ≡ false → bump_unless e a v n k g ≡ hit e a n (v ⊘ n) k g
unfolding hit bump_unless bump
hit_on e a n v k g h = rw h

pub hit_own : (a n v : Float) (k : ℕ) (g : List Float) → eq n f0 ≡ false → bump a v n k g ≡ hit false a n (v ⊘ n) k g
unfolding hit bump
hit_own a n v k g h = rw h
