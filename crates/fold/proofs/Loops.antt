-- Laws of counted loops.
use mathlib.Core.Path.{◌≡◌, refl, ap, ◌∙◌, sym}
use Prim.Native.Nat.{ℕ, zero, suc, ◌+◌, ◌*◌, ◌<◌}
use native.Mathlib.Nat.{suc-mul, zero-mul, add-zero, add-suc}
use native.Mathlib.Numerals.{add-one}
use native.Mathlib.Omega.{arith}
use Rattle.fold.specs.Fold.{upto}

module _ {ℓ} {A : Type ℓ} where
  pub upto_none : (f : ℕ → A → A) (a : A) → a ≡ upto f 0 a
  unfolding upto
  upto_none f a = refl

  -- one turn more, at the code's `k + 1`
  pub upto_more : (f : ℕ → A → A) (k : ℕ) (a : A) → upto f (k + 1) a ≡ f k (upto f k a)
  unfolding upto
  upto_more f k a = rw add-one

-- for a loop's invariant `x ≡ upto f k a`: the step, and the end
pub upto_step {ℓ} : {A : Type ℓ} (f : ℕ → A → A) (k : ℕ) (a : A) {x : A} → x ≡ upto f k a → f k x ≡ upto f (k + 1) a
upto_step f k a e = ap (f k) e ∙ sym (upto_more f k a)

-- where the turn is a call that ensures `y ≡ f k x`
pub upto-call {ℓ} : {A : Type ℓ} (f : ℕ → A → A) (k : ℕ) (a : A) {x y : A} → x ≡ upto f k a → y ≡ f k x → y ≡ upto f (k + 1) a
upto-call f k a e h = h ∙ upto_step f k a e

pub upto-end {ℓ} : {A : Type ℓ} (f : ℕ → A → A) (k n : ℕ) (a : A) {x : A} → x ≡ upto f k a → k ≡ n → x ≡ upto f n a
upto-end f k n a {x} e h = rw (← h) e

-- what each turn keeps, the loop keeps
pub upto-keeps {ℓ κ} : {A : Type ℓ} {B : Type κ} (g : A → B) (f : ℕ → A → A) → ((k : ℕ) (a : A) → g (f k a) ≡ g a) → (n : ℕ) (a : A) → g (upto f n a) ≡ g a
unfolding upto
upto-keeps g f h zero a = refl
upto-keeps g f h (suc k) a = h k (upto f k a) ∙ upto-keeps g f h k a

pub upto-ok {ℓ κ} : {A : Type ℓ} (Ok : A → Type κ) (f : ℕ → A → A) → ((k : ℕ) (a : A) → Ok a → Ok (f k a)) → (n : ℕ) (a : A) → Ok a → Ok (upto f n a)
unfolding upto
upto-ok Ok f h zero a o = o
upto-ok Ok f h (suc k) a o = h k (upto f k a) (upto-ok Ok f h k a o)

-- turns that are equal, a loop after a loop, and a loop in a loop as one loop
module _ {A : Type 0} where
  pub upto_ext : (f g : ℕ → A → A) (n : ℕ) (s : A) → ((k : ℕ) (t : A) → k < n → f k t ≡ g k t) → upto f n s ≡ upto g n s
  unfolding upto
  upto_ext f g zero s h = refl
  upto_ext f g (suc n) s h = ap (f n) (upto_ext f g n s (λ k t l. h k t (omega arith))) ∙ h n (upto g n s) (omega arith)

  pub upto_add : (f : ℕ → A → A) (a b : ℕ) (s : A) → upto f (a + b) s ≡ upto (λ k. f (a + k)) b (upto f a s)
  unfolding upto
  upto_add f a zero s = ap (λ (k : ℕ). upto f k s) (add-zero a)
  upto_add f a (suc b) s = ap (λ (k : ℕ). upto f k s) (add-suc a b) ∙ ap (f (a + b)) (upto_add f a b s)

  pub upto_nest : (f : ℕ → A → A) (m n : ℕ) (s : A) → upto (λ i t. upto (λ j. f (i * m + j)) m t) n s ≡ upto f (n * m) s
  unfolding upto
  upto_nest f m zero s = ap (λ (k : ℕ). upto f k s) (sym (zero-mul m))
  upto_nest f m (suc n) s =
      ap (λ (t : A). upto (λ j. f (n * m + j)) m t) (upto_nest f m n s)
      ∙ sym (upto_add f (n * m) m s)
      ∙ ap (λ (k : ℕ). upto f k s) (sym (suc-mul n m))
