use Rattle.std.proofs.Common.{◌≡◌, rules}
use Rattle.answers.specs.Answers.{filled}
use Rattle.dqt.specs.Dqt.{importing}
use Rattle.dqt.proofs.Imports.{last_is, unnamed_is}
use Rattle.dqt.proofs.import.Goals as goal

pub returns-clause-last_stored : goal.returns-clause-last_stored
unfolding importing
returns-clause-last_stored c =
    let e : filled 0 c.store_all.new.tables ≡ importing c.args.segment.now c.args.tables.now = search rules in
    last_is c.args.segment.now c.args.tables.now c.store_all.new.tables e

pub returns-clause-unnamed_kept : goal.returns-clause-unnamed_kept
unfolding importing
returns-clause-unnamed_kept c =
    let e : filled 0 c.store_all.new.tables ≡ importing c.args.segment.now c.args.tables.now = search rules in
    unnamed_is c.args.segment.now c.args.tables.now c.store_all.new.tables e
