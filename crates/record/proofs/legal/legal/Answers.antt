-- Kept: the check finds none of these alone (scripts/answers tries each).
-- `legal`: the header is tested first, so that there are at most three channels to look at.
use mathlib.Core.Path.{◌≡◌, sym, ◌∙◌}
use mathlib.Core.Bool.{true}
use Prim.Native.Nat.{◌≤◌}
use native.Mathlib.Omega.{arith}
use lib.ListN.{length}
use Rattle.calls.specs.Run.{header_ok, sheet_ok, places_ok}
use Rattle.record.specs.Model.{sheet_of, places_of}
use Rattle.record.proofs.Channels.{header_count, places_counted, each_channel}
use Rattle.record.proofs.legal.legal.Goals as goal

pub channels_ok-requires : goal.channels_ok-requires
channels_ok-requires c = header_count (sheet_of c.args.run) (sym c.header_ok.ensures ∙ c.if-header_ok.true)

pub returns-then-header_ok : goal.returns-then-header_ok
unfolding sheet_ok places_ok
returns-then-header_ok c =
    let r = c.args.run in
    let header : header_ok (sheet_of r) ≡ true = sym c.header_ok.ensures ∙ c.if-header_ok.true in
    let long : r.count ≤ length r.channels = omega (arith, header_count (sheet_of r) header) in
    rw (header, places_counted r long) (c.channels_ok.ensures ∙ each_channel (sheet_of r) (places_of r) r.count)

pub returns-else-header_ok : goal.returns-else-header_ok
unfolding sheet_ok
returns-else-header_ok c = c.if-header_ok.false ∙ rw (sym c.header_ok.ensures ∙ c.if-header_ok.false)
