-- Laws of a channel's part of a lent buffer, and of channels joined.
use mathlib.Core.Path.{◌≡◌, refl, sym, ap, ◌∙◌}
use mathlib.Core.Logic.{◌≢◌, ◌⊎◌, inl, inr}
use Prim.Native.Nat.{ℕ, zero, suc, ◌+◌, ◌-◌, ◌*◌, ◌≤◌, ◌<◌}
use native.Mathlib.Nat.{eq-or-lt_of_le, le_of_eq, suc-mul}
use native.Mathlib.Omega.{arith}
use native.Mathlib.Decide.{dec_lt}
use mathlib.Core.List.{List, ◌++◌}
use lib.ListN.{length, take, drop, length-append, length-drop, take-append-drop}
use lib.Seq.{take_all, take-append-le, drop-append-le, drop_at, take-add}
use lib.Ieee.{Float, nan}
use Rattle.fold.proofs.Grid.{row_end}
use Rattle.fold.proofs.Parts.{part_length, splice-length, part_splice, part_before, part_after}
use Rattle.start.specs.Buffers.{Buffers}
use Rattle.calls.specs.Buffers.{Name, Plane, Prior, Gradient, Across, Down, Saved, get, make, part_of, put_part, join, channel, put_channel, joined, Sized}

apart : (c d : ℕ) → c ≢ d → (c < d) ⊎ (d < c)
apart c d h = elim (dec_lt c d) [ yes p ↦ inl p | no q ↦ inr (omega arith) ]

-- ---- one list

-- c's part has n values
pub width : (n c : ℕ) → c * n + n - c * n ≡ n
width n c = omega arith

pub part_is : (n c : ℕ) (xs : List Float) → part_of n c xs ≡ take n (drop (c * n) xs)
part_is n c xs = ap (λ (m : ℕ). take m (drop (c * n) xs)) (width n c)

-- a part put back where it was taken from
pub put-part : (n c : ℕ) (xs : List Float) → put_part n c xs (part_of n c xs) ≡ xs
put-part n c xs = ap (λ (l : List Float). take (c * n) xs ++ l) (take-append-drop (c * n + n - c * n) (drop (c * n) xs)) ∙ take-append-drop (c * n) xs

module _ (n c k : ℕ) (xs : List Float) (long : length xs ≡ k * n) (below : c < k) where
  in_list : c * n + n ≤ length xs
  in_list = omega (arith, row_end c k n below)

  pub length_part : length (part_of n c xs) ≡ n
  length_part = part_length xs (c * n) (c * n + n) (omega arith) in_list ∙ width n c

  module _ (ys : List Float) (l : length ys ≡ n) where
    fills : length ys ≡ c * n + n - c * n
    fills = l ∙ sym (width n c)

    pub length-put : length (put_part n c xs ys) ≡ length xs
    length-put = splice-length xs (c * n) (c * n + n) (omega arith) in_list ys fills

    pub part_put_same : part_of n c (put_part n c xs ys) ≡ ys
    part_put_same = part_splice xs (c * n) (c * n + n) (omega arith) in_list ys fills

    pub part_put_other : (d : ℕ) → d < k → c ≢ d → part_of n d (put_part n c xs ys) ≡ part_of n d xs
    part_put_other d m h =
        elim (apart c d h) [
          | inl p ↦
              part_after nan xs ys (c * n) (c * n + n) (d * n) (d * n + n) (omega arith) in_list fills (omega arith) (omega (arith, row_end c d n p))
              (omega (arith, row_end d k n m))
          | inr q ↦ part_before nan xs ys (c * n) (c * n + n) (d * n) (d * n + n) (omega arith) in_list fills (omega arith) (omega (arith, row_end d c n q))
        ]

-- ---- channels joined

-- a part that lies in the first of two lists
early : (s t : List Float) (b n : ℕ) → b + n ≤ length s → take n (drop b (s ++ t)) ≡ take n (drop b s)
early s t b n h =
    let short : b ≤ length s = omega arith in
    let long : n ≤ length (drop b s) = omega (arith, length-drop b s) in
    ap (take n) (drop-append-le b s t short) ∙ take-append-le n (drop b s) t long

module _ (n : ℕ) where
  pub length_join : (k : ℕ) (f : ℕ → List Float) → ((c : ℕ) → c < k → length (f c) ≡ n) → length (join k f) ≡ k * n
  length_join zero f h = omega arith
  length_join (suc k) f h =
      let ih : length (join k f) ≡ k * n = length_join k f (λ c p. h c (omega arith)) in
      let last : length (f k) ≡ n = h k (omega arith) in
      omega (arith, length-append (join k f) (f k), suc-mul k n)

  taken_join : (k : ℕ) (f : ℕ → List Float) → ((c : ℕ) → c < k → length (f c) ≡ n) → (c : ℕ) → c < k → take n (drop (c * n) (join k f)) ≡ f c
  taken_join zero f h c p = absurd (omega arith)
  taken_join (suc k) f h c p = go (eq-or-lt_of_le p) (taken_join k f (λ d q. h d (omega arith)) c)
    where
      len : length (join k f) ≡ k * n
      len = length_join k f (λ d q. h d (omega arith))

      go : (suc c ≡ suc k) ⊎ (suc c < suc k) → (c < k → take n (drop (c * n) (join k f)) ≡ f c) → take n (drop (c * n) (join k f ++ f k)) ≡ f c
      go (inl e) ih =
          let same : c ≡ k = omega arith in
          ap (λ (d : ℕ). take n (drop (d * n) (join k f ++ f k))) same
          ∙ ap (take n) (drop_at (join k f) (f k) (k * n) len)
          ∙ take_all n (f k) (le_of_eq (h k (omega arith)))
          ∙ ap f (sym same)
      go (inr q) ih =
          let below : c < k = omega arith in
          early (join k f) (f k) (c * n) n (omega (arith, len, row_end c k n below)) ∙ ih below

  pub part_join : (k : ℕ) (f : ℕ → List Float) → ((c : ℕ) → c < k → length (f c) ≡ n) → (c : ℕ) → c < k → part_of n c (join k f) ≡ f c
  part_join k f h c p = part_is n c (join k f) ∙ taken_join k f h c p

  pub join_parts : (k : ℕ) (xs : List Float) → join k (λ c. part_of n c xs) ≡ take (k * n) xs
  join_parts zero xs = let e : 0 ≡ 0 * n = omega arith in ap (λ (m : ℕ). take m xs) e
  join_parts (suc k) xs =
      ap (λ (l : List Float). l ++ part_of n k xs) (join_parts k xs)
      ∙ ap (λ (l : List Float). take (k * n) xs ++ l) (part_is n k xs)
      ∙ sym (take-add (k * n) n xs)
      ∙ ap (λ (m : ℕ). take m xs) (sym (suc-mul k n))

pub join_ext : (k : ℕ) (f g : ℕ → List Float) → ((c : ℕ) → c < k → f c ≡ g c) → join k f ≡ join k g
join_ext zero f g h = refl
join_ext (suc k) f g h = λ i. join_ext k f g (λ c p. h c (omega arith)) i ++ h k (omega arith) i

-- ---- all six

pub get_make : (f : Name → List Float) (b : Name) → get b (make f) ≡ f b
get_make f Plane = refl
get_make f Prior = refl
get_make f Gradient = refl
get_make f Across = refl
get_make f Down = refl
get_make f Saved = refl

-- equal if each of the six is
pub same : (A B : Buffers) → ((b : Name) → get b A ≡ get b B) → A ≡ B
same A B h =
    λ i. record { plane = h Plane i; prior = h Prior i; gradient = h Gradient i; across = h Across i; down = h Down i; saved = h Saved i }

make_ext : (f g : Name → List Float) → ((b : Name) → f b ≡ g b) → make f ≡ make g
make_ext f g h = same (make f) (make g) (λ b. get_make f b ∙ h b ∙ sym (get_make g b))

make_get : (f : Name → List Float) (B : Buffers) → ((b : Name) → f b ≡ get b B) → make f ≡ B
make_get f B h = same (make f) B (λ b. get_make f b ∙ h b)

-- a buffer that a job leaves alone, and one that it writes
pub put_kept : (n c : ℕ) (B x : Buffers) (b : Name) → get b x ≡ get b (channel n c B) → get b (put_channel n c B x) ≡ get b B
unfolding put_channel channel
put_kept n c B x b e =
    get_make (λ b. put_part n c (get b B) (get b x)) b
    ∙ ap (put_part n c (get b B)) (e ∙ get_make (λ b. part_of n c (get b B)) b)
    ∙ put-part n c (get b B)

pub put_written : (n c : ℕ) (B x : Buffers) (b : Name) → get b (put_channel n c B x) ≡ put_part n c (get b B) (get b x)
unfolding put_channel
put_written n c B x b = get_make (λ b. put_part n c (get b B) (get b x)) b

module _ (n c k : ℕ) (B : Buffers) (sized : Sized (k * n) B) (below : c < k) where
  pub channel_sized : Sized n (channel n c B)
  unfolding channel
  channel_sized b = ap length (get_make (λ b. part_of n c (get b B)) b) ∙ length_part n c k (get b B) (sized b) below

  module _ (x : Buffers) (long : Sized n x) where
    pub put_sized : Sized (k * n) (put_channel n c B x)
    unfolding put_channel
    put_sized b = ap length (get_make (λ b. put_part n c (get b B) (get b x)) b) ∙ length-put n c k (get b B) (sized b) below (get b x) (long b) ∙ sized b

    pub put_same : channel n c (put_channel n c B x) ≡ x
    unfolding channel put_channel
    put_same =
        make_get _ x
        (λ b. ap (part_of n c) (get_make (λ b. put_part n c (get b B) (get b x)) b) ∙ part_put_same n c k (get b B) (sized b) below (get b x) (long b))

    pub put_other : (d : ℕ) → d < k → c ≢ d → channel n d (put_channel n c B x) ≡ channel n d B
    unfolding channel put_channel
    put_other d m h =
        make_ext _ _
        (λ b. ap (part_of n d) (get_make (λ b. put_part n c (get b B) (get b x)) b) ∙ part_put_other n c k (get b B) (sized b) below (get b x) (long b) d m h)

module _ (n k : ℕ) where
  pub joined_sized : (f : ℕ → Buffers) → ((c : ℕ) → c < k → Sized n (f c)) → Sized (k * n) (joined k f)
  unfolding joined
  joined_sized f h b = ap length (get_make (λ b. join k (λ c. get b (f c))) b) ∙ length_join n k (λ c. get b (f c)) (λ c p. h c p b)

  pub channel_joined : (f : ℕ → Buffers) → ((c : ℕ) → c < k → Sized n (f c)) → (c : ℕ) → c < k → channel n c (joined k f) ≡ f c
  unfolding channel joined
  channel_joined f h c p =
      make_get _ (f c)
      (λ b. ap (part_of n c) (get_make (λ b. join k (λ c. get b (f c))) b) ∙ part_join n k (λ c. get b (f c)) (λ d q. h d q b) c p)

  -- the lent buffers are the channels' joined
  pub joined_channels : (f : ℕ → Buffers) (B : Buffers) → Sized (k * n) B → ((c : ℕ) → c < k → channel n c B ≡ f c) → joined k f ≡ B
  unfolding channel joined
  joined_channels f B sized h =
      make_get _ B
      (λ b.
      join_ext k (λ c. get b (f c)) (λ c. part_of n c (get b B)) (λ c p. sym (ap (get b) (h c p)) ∙ get_make (λ b. part_of n c (get b B)) b)
      ∙ join_parts n k (get b B)
      ∙ take_all (k * n) (get b B) (le_of_eq (sized b)))
