-- What the recursion fixes for the small sheet at each count, 0 to 10: the buffers of the Rust's trace.
use mathlib.Core.Path.{◌≡◌, refl, ap, ◌∙◌}
use mathlib.Core.Bool.{Bool, false, ◌&&◌}
use Prim.Native.Nat.{ℕ, zero, suc}
use native.Mathlib.Omega.{arith}
use lib.Dec.{leb}
use borrow.Author.Tests.{le-ltb}
use lib.Ieee.{binary32, of_bits}
use Rattle.start.specs.declared.coef.Reorder.TheVariants.{Each}
use Rattle.start.specs.Buffers.{Buffers}
use Rattle.start.specs.Coef.{Coef}
use Rattle.work.specs.Work.{starting, pushing, data_job, blending, moving, projecting}
use Rattle.calls.specs.Run.{own, held}
use Rattle.calls.specs.Buffers.{channel, joined}
use Rattle.calls.specs.Jobs.{fixed}
use Rattle.demand.specs.Solver.{jobs, coef_of}
use Rattle.wrong.proofs.Low8.{c0, k0, k1, constants_0, constants_1, b0_0, b1_0, b2_0, b3_0, b4_0, b5_0, b6_0, b7_0, b8_0, b9_0, b10_0, l0, l2, l3, l4, l5, l7, l8, l9, l11, l12, l13, start_0_0, push_1_0, data_2_0, blend_3, move_4_0, project_5_0, push_6_0, data_7_0, blend_8, move_9_0, project_10_0}
use Rattle.wrong.specs.Sheet.{low8}

coef_is : coef_of low8 0 ≡ c0
unfolding coef_of low8 c0
coef_is = refl

-- one channel's buffers joined are that channel's
alone : (b : Buffers) → joined 1 (λ c. b) ≡ b
unfolding joined
alone b = refl

whole_3 : channel 64 0 b3_0 ≡ b3_0
unfolding channel b3_0 l0 l2 l3 l4 l5
whole_3 = refl

whole_8 : channel 64 0 b8_0 ≡ b8_0
unfolding channel b8_0 l7 l8 l9 l11 l12 l13
whole_8 = refl

-- no channel is held in either step
past : (c step : ℕ) → held low8.sheet (suc c) step ≡ false
unfolding low8
past c step = ap (λ (b : Bool). b && leb (own low8.sheet (suc c)).held step) (le-ltb (suc c) 1 (omega arith))

never_0 : (c : ℕ) → held low8.sheet c 0 ≡ false
unfolding low8
never_0 zero = refl
never_0 (suc c) = past c 0

never_1 : (c : ℕ) → held low8.sheet c 1 ≡ false
unfolding low8
never_1 zero = refl
never_1 (suc c) = past c 1

pub at_0 : fixed jobs low8 0 0 ≡ b0_0
unfolding fixed low8
at_0 = ap (λ (C : Coef). starting Each C 8 8) coef_is ∙ start_0_0

pub at_1 : fixed jobs low8 1 0 ≡ b1_0
unfolding fixed low8
at_1 = (λ i. pushing (constants_0 i) (at_0 i)) ∙ push_1_0

pub at_2 : fixed jobs low8 2 0 ≡ b2_0
unfolding fixed low8
at_2 = (λ i. data_job (coef_is i) 8 8 (of_bits binary32 1017370378) (at_1 i)) ∙ data_2_0

pub at_3 : fixed jobs low8 3 0 ≡ b3_0
unfolding fixed low8 joined
at_3 = ap (channel 64 0) ((λ i. blending 8 8 1 (λ c. never_0 c i) (constants_0 i) (joined 1 (λ c. at_2 i))) ∙ ap (blending 8 8 1 (λ c. false) k0) (alone b2_0) ∙ blend_3) ∙ whole_3

pub at_4 : fixed jobs low8 4 0 ≡ b4_0
unfolding fixed low8
at_4 = (λ i. moving (constants_0 i) (at_3 i)) ∙ move_4_0

pub at_5 : fixed jobs low8 5 0 ≡ b5_0
unfolding fixed low8
at_5 = (λ i. projecting (coef_is i) 8 8 (at_4 i)) ∙ project_5_0

pub at_6 : fixed jobs low8 6 0 ≡ b6_0
unfolding fixed low8
at_6 = (λ i. pushing (constants_1 i) (at_5 i)) ∙ push_6_0

pub at_7 : fixed jobs low8 7 0 ≡ b7_0
unfolding fixed low8
at_7 = (λ i. data_job (coef_is i) 8 8 (of_bits binary32 1017370378) (at_6 i)) ∙ data_7_0

pub at_8 : fixed jobs low8 8 0 ≡ b8_0
unfolding fixed low8 joined
at_8 = ap (channel 64 0) ((λ i. blending 8 8 1 (λ c. never_1 c i) (constants_1 i) (joined 1 (λ c. at_7 i))) ∙ ap (blending 8 8 1 (λ c. false) k1) (alone b7_0) ∙ blend_8) ∙ whole_8

pub at_9 : fixed jobs low8 9 0 ≡ b9_0
unfolding fixed low8
at_9 = (λ i. moving (constants_1 i) (at_8 i)) ∙ move_9_0

pub at_10 : fixed jobs low8 10 0 ≡ b10_0
unfolding fixed low8
at_10 = (λ i. projecting (coef_is i) 8 8 (at_9 i)) ∙ project_10_0
