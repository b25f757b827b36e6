-- A row's changes eight places at once.
use Rattle.std.proofs.Common.{◌≡◌, refl, sym, ap, ◌∙◌, ℕ, ◌+◌, ◌-◌, ◌<◌, ◌≤◌, Bool, true, false, cond, List, map, length, get_or, replicate, w32, arith, zero-add}
use Rattle.std.proofs.lemmas.Simd.{length-chunk, get_or-chunk, get_or-zip2, get_or-replicate, length-zip2, tops_compared, length-sel_l, get_or-sel_l, put_chunk_whole}
use lib.Lanes.{zip2, chunk, put_chunk, sel_l, top}
use lib.Ieee.{Float, nan, eq}
use Rattle.fold.specs.Fold.{upto}
use Rattle.fold.specs.Part.{part, splice}
use Rattle.fold.proofs.Loops.{upto_add}
use Rattle.fold.proofs.Parts.{part_at}
use Rattle.float.specs.Ops.{fused}
use Rattle.float.specs.Names.{f0, val}
use Rattle.rows.specs.Rows.{hit_in}
use Rattle.rows.proofs.Lent.{put_whole, put_is}
use Rattle.rows.proofs.RowLaws.{hit_at}

-- the places from a to below e are changed after those below a
pub grown : (alpha : Float) (ns qs g₀ g y : List Float) (a e : ℕ) → a ≤ e → e ≤ length g → e ≤ length ns → e ≤ length qs → g ≡ upto (hit_in alpha ns qs) a g₀
    → y ≡ upto (hit_in alpha (part ns a e) (part qs a e)) (length (part g a e)) (part g a e) → splice g a e y ≡ upto (hit_in alpha ns qs) e g₀
grown alpha ns qs g₀ g y a e h k l m before i =
    put_whole alpha ns qs (part ns a e) (part qs a e) g y a a e (e - a) h k refl i (λ j n. part_at ns a e h l j nan n) (λ j n. part_at qs a e h m j nan n)
    ∙ ap (upto (hit_at alpha ns qs a a) (e - a)) before
    ∙ sym (upto_add (hit_in alpha ns qs) a (e - a) g₀)
    ∙ ap (λ (z : ℕ). upto (hit_in alpha ns qs) z g₀) (back a e h)
  where
    back : (a e : ℕ) → a ≤ e → a + (e - a) ≡ e
    back a e h = omega arith

-- ---- the eight values that are kept or changed
module _ (alpha : Float) (ns qs g new : List Float) (G : length g ≡ 8) (N : length ns ≡ 8) (Q : length qs ≡ 8) (W : length new ≡ 8) where
  abbrev zeros : List Float
  zeros = replicate 8 f0

  abbrev idle : List Bool
  idle = map (top 31) (zip2 (λ a b. cond (eq a b) 4294967295 0) (chunk 0 8 ns) zeros)

  abbrev factors : List Float
  factors = sel_l idle zeros (chunk 0 8 qs)

  idle_is : idle ≡ zip2 eq (chunk 0 8 ns) zeros
  idle_is = tops_compared w32 eq (chunk 0 8 ns) zeros

  eight : (xs : List Float) → length xs ≡ 8 → length (chunk 0 8 xs) ≡ 8
  eight xs l = length-chunk 0 8 xs (omega arith)

  same : (xs : List Float) (i : ℕ) → i < 8 → val (chunk 0 8 xs) i ≡ val xs i
  same xs i h = get_or-chunk 0 8 xs i nan h ∙ ap (val xs) (zero-add i)

  idle_len : length idle ≡ 8
  idle_len = ap length idle_is ∙ length-zip2 eq (chunk 0 8 ns) zeros (eight ns N) ∙ eight ns N

  idle_at : (i : ℕ) → i < 8 → get_or idle i false ≡ eq (val ns i) f0
  idle_at i h =
      ap (λ (t : List Bool). get_or t i false) idle_is
      ∙ get_or-zip2 eq (chunk 0 8 ns) zeros i nan nan false (omega (arith, eight ns N)) h
      ∙ (λ j. eq (same ns i h j) (get_or-replicate 8 i f0 nan h j))

  factor_at : (i : ℕ) → i < 8 → val factors i ≡ cond (eq (val ns i) f0) f0 (val qs i)
  factor_at i h =
      get_or-sel_l idle zeros (chunk 0 8 qs) i nan (omega (arith, idle_len)) h (omega (arith, eight qs Q))
      ∙ (λ j. cond (idle_at i h j) (get_or-replicate 8 i f0 nan h j) (same qs i h j))

  abbrev chosen : List Float
  chosen = sel_l idle (chunk 0 8 g) new

  chosen_len : length chosen ≡ 8
  chosen_len = length-sel_l idle (chunk 0 8 g) new (idle_len ∙ sym (eight g G)) (idle_len ∙ sym W) ∙ idle_len

  unless : (b : Bool) (x y v : Float) → cond b v (fused alpha (cond b x y) v) ≡ cond b v (fused alpha y v)
  unless true x y v = refl
  unless false x y v = refl

  module _ (changed : (i : ℕ) → i < 8 → val new i ≡ fused alpha (val factors i) (val (chunk 0 8 g) i)) where
    chosen_at : (i : ℕ) → i < 8 → val chosen i ≡ cond (eq (val ns i) f0) (val g i) (fused alpha (val qs i) (val g i))
    chosen_at i h =
        get_or-sel_l idle (chunk 0 8 g) new i nan (omega (arith, idle_len)) (omega (arith, eight g G)) (omega (arith, W))
        ∙ (λ j. cond (idle_at i h j) (same g i h j) ((changed i h ∙ (λ z. fused alpha (factor_at i h z) (same g i h z))) j))
        ∙ unless (eq (val ns i) f0) f0 (val qs i) (val g i)

    pub put_chosen : put_chunk 0 g chosen ≡ upto (hit_in alpha ns qs) (length g) g
    put_chosen =
        put_chunk_whole g chosen (G ∙ sym chosen_len)
        ∙ put_is alpha ns qs g chosen (chosen_len ∙ sym G) (λ x l. chosen_at x (omega (arith, G)))
