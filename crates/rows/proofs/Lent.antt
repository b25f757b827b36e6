-- A loop over a lent part of a buffer, seen in the whole buffer.
use Rattle.std.proofs.Common.{◌≡◌, refl, ap, ◌∙◌, sym, ℕ, zero, suc, ◌+◌, ◌-◌, ◌<◌, ◌≤◌, Bool, true, false, cond, ◌||◌, List, ◌++◌, length, take, drop, set, arith, length-set, get_or-take, zero-add, add-zero, le_refl, replicate, ap₂}
use Rattle.std.proofs.lemmas.List.{set-get_or, take-append-drop, set-append_left, set-append_right, length-replicate, get_or-replicate}
use Rattle.fold.proofs.Stores.{stored}
use lib.Seq.{length-take-le}
use lib.Ieee.{Float, nan, eq}
use Rattle.fold.specs.Fold.{upto}
use Rattle.fold.specs.Part.{part, splice}
use Rattle.fold.proofs.Loops.{upto-keeps}
use Rattle.fold.proofs.Parts.{part_length, part_at, splice_in}
use Rattle.float.specs.Ops.{fused}
use Rattle.float.specs.Names.{◌⊖◌, f0, val}
use Rattle.fold.proofs.Loops.{upto_ext}
use Rattle.rows.proofs.RowLaws.{hit_same, hit_at, change_row, row_is}
use Rattle.rows.specs.Rows.{Row, store_from, store_in, hit, hit_in}

module _ (g : List Float) (a e : ℕ) (h : a ≤ e) (k : e ≤ length g) where
  pub splice_part : splice g a e (part g a e) ≡ g
  splice_part = ap (λ (t : List Float). take a g ++ t) (take-append-drop (e - a) (drop a g)) ∙ take-append-drop a g

  pub splice_set : (y : List Float) → length y ≡ e - a → (j : ℕ) → j < e - a → (v : Float) → splice g a e (set y j v) ≡ set (splice g a e y) (a + j) v
  splice_set y l j m v =
      let rest = drop (e - a) (drop a g) in
      let back : a + j - a ≡ j = omega arith in
      sym (set-append_right (take a g) (y ++ rest) a (a + j) v (length-take-le a g (omega arith)) (omega arith)
      ∙ ap (λ (i : ℕ). take a g ++ set (y ++ rest) i v) back
      ∙ ap (λ (t : List Float). take a g ++ t) (set-append_left y rest j v (omega arith)))

  -- values stored
  module _ (v : ℕ → Float) where
    kept : (n : ℕ) → length (upto (store_in v) n (part g a e)) ≡ e - a
    kept n = upto-keeps length (store_in v) (λ j t. length-set t (0 + j) (v j)) n (part g a e) ∙ part_length g a e h k

    pub stored_in : (n : ℕ) → n ≤ e - a → splice g a e (upto (store_in v) n (part g a e)) ≡ upto (store_from a v) n g
    unfolding upto
    stored_in zero m = splice_part
    stored_in (suc n) m =
        ap (λ (i : ℕ). splice g a e (set (upto (store_in v) n (part g a e)) i (v n))) (zero-add n)
        ∙ splice_set (upto (store_in v) n (part g a e)) (kept n) n (omega arith) (v n)
        ∙ ap (λ (t : List Float). set t (a + n) (v n)) (stored_in n (omega arith))

  -- values changed, unless a norm is 0
  module _ (alpha : Float) (ns qs : List Float) where
    hit_length : (j : ℕ) (y : List Float) → length (hit_in alpha ns qs j y) ≡ length y
    unfolding hit
    hit_length j y = go (eq (val ns j) f0 || false)
      where
        go : (b : Bool) → length (cond b y (set y j (fused alpha (val qs j) (val y j)))) ≡ length y
        go true = refl
        go false = length-set y j (fused alpha (val qs j) (val y j))

    hits_length : (n : ℕ) → length (upto (hit_in alpha ns qs) n (part g a e)) ≡ e - a
    hits_length n = upto-keeps length (hit_in alpha ns qs) hit_length n (part g a e) ∙ part_length g a e h k

    hit_whole : (y : List Float) → length y ≡ e - a → (j : ℕ) → j < e - a → splice g a e (hit_in alpha ns qs j y) ≡ hit false alpha (val ns j) (val qs j) (a + j) (splice g a e y)
    unfolding hit
    hit_whole y l j m = go (eq (val ns j) f0 || false)
      where
        go : (b : Bool) → splice g a e (cond b y (set y j (fused alpha (val qs j) (val y j)))) ≡ cond b (splice g a e y) (set (splice g a e y) (a + j) (fused alpha (val qs j) (val (splice g a e y) (a + j))))
        go true = refl
        go false = splice_set y l j m (fused alpha (val qs j) (val y j)) ∙ ap (λ (z : Float). set (splice g a e y) (a + j) (fused alpha (val qs j) z)) (sym (splice_in g a e h k y l j nan m))

    pub hits_in : (n : ℕ) → n ≤ e - a → splice g a e (upto (hit_in alpha ns qs) n (part g a e)) ≡ upto (λ j. hit false alpha (val ns j) (val qs j) (a + j)) n g
    unfolding upto
    hits_in zero m = splice_part
    hits_in (suc n) m =
        hit_whole (upto (hit_in alpha ns qs) n (part g a e)) (hits_length n) n (omega arith)
        ∙ ap (hit false alpha (val ns n) (val qs n) (a + n)) (hits_in n (omega arith))

-- the first norms and quotients of a row, and those from the second on, by the places of the whole buffers
pub from_first : (xs : List Float) (n j : ℕ) → j < n → val (take n xs) j ≡ val xs (0 + j)
from_first xs n j l = get_or-take n xs j nan l ∙ ap (val xs) (sym (zero-add j))

pub from_second : (xs : List Float) (e j : ℕ) → 1 ≤ e → e ≤ length xs → j < e - 1 → val (part xs 1 e) j ≡ val xs (1 + j)
from_second xs e j h k l = part_at xs 1 e h k j nan l

pub put_whole : (alpha : Float) (ns qs ms ps g y : List Float) (lo at e n : ℕ) → at ≤ e → e ≤ length g → e - at ≡ n → y ≡ upto (hit_in alpha ms ps) (length (part g at e)) (part g at e)
    → ((j : ℕ) → j < n → val ms j ≡ val ns (lo + j)) → ((j : ℕ) → j < n → val ps j ≡ val qs (lo + j)) → splice g at e y ≡ upto (hit_at alpha ns qs lo at) n g
put_whole alpha ns qs ms ps g y lo at e n h k m i u v =
    ap (splice g at e) (i ∙ ap (λ (z : ℕ). upto (hit_in alpha ms ps) z (part g at e)) (part_length g at e h k))
    ∙ hits_in g at e h k alpha ms ps (e - at) (le_refl (e - at))
    ∙ ap (λ (z : ℕ). upto (λ j. hit false alpha (val ms j) (val ps j) (at + j)) z g) m
    ∙ upto_ext (λ j. hit false alpha (val ms j) (val ps j) (at + j)) (hit_at alpha ns qs lo at) n g (λ x t l. hit_same alpha t refl (u x l) (v x l) refl)

-- values stored in a part, and zeros, by the places of the whole buffer
pub store_whole : (v u : ℕ → Float) (g y : List Float) (at e n : ℕ) → at ≤ e → e ≤ length g → e - at ≡ n → y ≡ upto (store_in v) (length (part g at e)) (part g at e)
    → ((j : ℕ) → j < n → v j ≡ u j) → splice g at e y ≡ upto (store_from at u) n g
store_whole v u g y at e n h k m i w =
    ap (splice g at e) (i ∙ ap (λ (z : ℕ). upto (store_in v) z (part g at e)) (part_length g at e h k))
    ∙ stored_in g at e h k v (e - at) (le_refl (e - at))
    ∙ ap (λ (z : ℕ). upto (store_from at v) z g) m
    ∙ upto_ext (store_from at v) (store_from at u) n g (λ x t l. ap (set t (at + x)) (w x l))

-- values stored from place 0 on are each place's own
pub from_zero : (v : ℕ → Float) (n : ℕ) (t : List Float) → upto (store_in v) n t ≡ upto (λ x s. set s x (v x)) n t
from_zero v n t = upto_ext (store_in v) (λ x s. set s x (v x)) n t (λ x s l. ap (λ (i : ℕ). set s i (v x)) (zero-add x))

pub zeros_stored : (t : List Float) → replicate (length t) f0 ≡ upto (store_in (λ j. f0)) (length t) t
zeros_stored t = sym (from_zero (λ j. f0) (length t) t ∙ stored nan (λ j. f0) t (replicate (length t) f0) (length-replicate (length t) f0) (λ i l. sym (get_or-replicate (length t) i f0 nan l)))

pub zeros_whole : (g y : List Float) (at e n : ℕ) → at ≤ e → e ≤ length g → e - at ≡ n → y ≡ replicate n f0 → splice g at e y ≡ upto (store_from at (λ j. f0)) n g
zeros_whole g y at e n h k m i =
    store_whole (λ j. f0) (λ j. f0) g y at e n h k m
    (i ∙ ap (λ (z : ℕ). replicate z f0) (sym (part_length g at e h k ∙ m)) ∙ zeros_stored (part g at e)) (λ j l. refl)

pub one_stored : (t : List Float) (k : ℕ) → set t k f0 ≡ upto (store_from k (λ j. f0)) 1 t
unfolding upto
one_stored t k = ap (λ (z : ℕ). set t z f0) (sym (add-zero k))

pub diff_parts : (xs : List Float) (a e b f n : ℕ) → e ≡ a + n → f ≡ b + n → e ≤ length xs → f ≤ length xs → (j : ℕ) → j < n → val (part xs a e) j ⊖ val (part xs b f) j ≡ val xs (a + j) ⊖ val xs (b + j)
diff_parts xs a e b f n h k u v j l = ap₂ (λ (y z : Float). y ⊖ z) (part_at xs a e (omega arith) u j nan (omega arith)) (part_at xs b f (omega arith) v j nan (omega arith))

pub in_part : (xs : List Float) (a n : ℕ) → a + n ≤ length xs → (j : ℕ) → j < n → val (part xs a (a + n)) j ≡ val xs (a + j)
in_part xs a n h j l = part_at xs a (a + n) (omega arith) h j nan (omega arith)

pub keep_whole : (v : ℕ → Float) (g y : List Float) (at e n : ℕ) → at ≤ e → e ≤ length g → e - at ≡ n → y ≡ upto (store_in v) n (part g at e) → splice g at e y ≡ upto (store_from at v) n g
keep_whole v g y at e n h k m i = ap (splice g at e) i ∙ stored_in g at e h k v n (omega arith)

-- stored values, by what stands at each place
pub store_is : (v : ℕ → Float) (t u : List Float) → length u ≡ length t → Row (length t) u v → u ≡ upto (store_in v) (length t) t
store_is v t u h r = row_is (λ x z. v x) t u h r ∙ sym (from_zero v (length t) t)

-- changes unless a norm is 0, by what stands at each place
pub put_is : (alpha : Float) (ns qs t u : List Float) → length u ≡ length t → Row (length t) u (λ x. cond (eq (val ns x) f0) (val t x) (fused alpha (val qs x) (val t x))) → u ≡ upto (hit_in alpha ns qs) (length t) t
unfolding hit
put_is alpha ns qs s u h r = row_is (λ x v. cond (eq (val ns x) f0) v (fused alpha (val qs x) v)) s u h r ∙ upto_ext (change_row (λ x v. cond (eq (val ns x) f0) v (fused alpha (val qs x) v))) (hit_in alpha ns qs) (length s) s (λ x t l. go x t (eq (val ns x) f0))
  where
    go : (x : ℕ) (t : List Float) (b : Bool) → set t x (cond b (val t x) (fused alpha (val qs x) (val t x))) ≡ cond (b || false) t (set t x (fused alpha (val qs x) (val t x)))
    go x t true = set-get_or t x nan
    go x t false = refl

-- a whole row
pub row_stored : (v u : ℕ → Float) (t y : List Float) (n : ℕ) → length t ≡ n → y ≡ upto (store_in v) (length t) t → ((j : ℕ) → j < n → v j ≡ u j) → y ≡ upto (store_in u) n t
row_stored v u t y n m i w = i ∙ ap (λ (z : ℕ). upto (store_in v) z t) m ∙ upto_ext (store_in v) (store_in u) n t (λ x s l. ap (set s (0 + x)) (w x l))

pub zeros_row : (t y : List Float) (n : ℕ) → length t ≡ n → y ≡ replicate n f0 → y ≡ upto (store_in (λ j. f0)) n t
zeros_row t y n m i = row_stored (λ j. f0) (λ j. f0) t y n m (i ∙ ap (λ (z : ℕ). replicate z f0) (sym m) ∙ zeros_stored t) (λ j l. refl)

pub row_length : (xs : List Float) (b w m : ℕ) → b + w ≤ length xs → m ≡ w → length (part xs b (b + w)) ≡ m
row_length xs b w m h i = part_length xs b (b + w) (omega arith) h ∙ omega arith
