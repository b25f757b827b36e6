-- The tests by turn, of the struct's own channels.
use mathlib.Core.Path.{◌≡◌, sym, ap, ◌∙◌}
use Prim.Native.Nat.{ℕ, ◌*◌, ◌%◌, ◌≤◌}
use native.Mathlib.Omega.{arith}
use lib.Dec.{eqb}
use lib.ListN.{length, take}
use Rattle.std.specs.List.{list_all, list_any}
use Rattle.calls.specs.Run.{place, every, among}
use Rattle.record.specs.Model.{Legal, places_of, no_channel}
use Rattle.record.specs.declared.Run.{Run}
use Rattle.record.proofs.Channels.{at_mark, at_position}
use Rattle.record.proofs.Sizes.{count_3}
use Rattle.record.proofs.Firsts.{all_first, any_first, every_same, among_same}

-- blend's tests of every channel
module _ (r : Run) (ok : Legal r) (three : length r.channels ≡ 3) where
  long : r.count ≤ length r.channels
  long = omega (arith, three, count_3 r ok)

  pub marks : list_any (λ x. x.mark) (take r.count r.channels) ≡ among r.count (λ c. (place (places_of r) c).mark)
  marks = any_first (λ x. x.mark) no_channel r.channels r.count long ∙ among_same r.count (λ i l. sym (at_mark r i long l))

  pub ends : list_any (λ x. eqb x.position (5 * r.n)) (take r.count r.channels) ≡ among r.count (λ c. eqb (place (places_of r) c).position (5 * r.n))
  ends =
      any_first (λ x. eqb x.position (5 * r.n)) no_channel r.channels r.count long
      ∙ among_same r.count (λ i l. ap (λ (p : ℕ). eqb p (5 * r.n)) (sym (at_position r i long l)))

  pub dues : list_all (λ x. eqb (x.position % 5) 2) (take r.count r.channels) ≡ every r.count (λ c. eqb ((place (places_of r) c).position % 5) 2)
  dues =
      all_first (λ x. eqb (x.position % 5) 2) no_channel r.channels r.count long
      ∙ every_same r.count (λ i l. ap (λ (p : ℕ). eqb (p % 5) 2) (sym (at_position r i long l)))
