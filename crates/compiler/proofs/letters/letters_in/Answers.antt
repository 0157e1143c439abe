use Rattle.std.proofs.Common.{◌≡◌, ◌+◌, ◌*◌, length, ap, arith}
use Rattle.nest.specs.Terms.{Said}
use Rattle.nest.specs.Views.{said}
use Rattle.compiler.proofs.KeptStatements.{short_ranges, few_reads, target_reaches, read_reaches}
use Rattle.compiler.proofs.LetterNotes.{at_most_wider}
use Rattle.compiler.proofs.Tallying.{tallied_none, at_most_none, tallied_read, tallied_all, tallied_pairs}
use Rattle.compiler.proofs.letters.letters_in.Goals as goal

pub owners_of-target-requires-clause-reaches : goal.owners_of-target-requires-clause-reaches
owners_of-target-requires-clause-reaches c = target_reaches c.args.fitted.now.nest.arrays (said c.args.statement.now) c.requires

pub owners_of-source-requires-clause-reaches : goal.owners_of-source-requires-clause-reaches
owners_of-source-requires-clause-reaches c =
    read_reaches c.args.fitted.now.nest.arrays (said c.args.statement.now) c.requires c.as_slice-reads.result.now c.as_slice-reads.ensures.value c.loop-read.read-index _ c.loop-read-test.true

pub note_read-requires-clause-room : goal.note_read-requires-clause-room
note_read-requires-clause-room c =
    let s : Said = said c.args.statement.now in
    let few = few_reads c.args.fitted.now.nest.arrays s c.requires in
    let same : length c.as_slice-reads.result.now ≡ length s.reads = ap length c.as_slice-reads.ensures.value in
    at_most_wider (1024 * c.loop-read.read-index) 3072 c.loop-read.count (omega (arith, c.loop-read-test.true)) c.loop-read.invariant.1

pub note_read-requires-clause-short : goal.note_read-requires-clause-short
note_read-requires-clause-short c = short_ranges c.args.fitted.now.nest.arrays (said c.args.statement.now) c.requires

pub note_read-requires-clause-answer : goal.note_read-requires-clause-answer
note_read-requires-clause-answer c = λ e w. ((c.owners_of-source.ensures e w).0, (c.owners_of-target.ensures e w).0)

pub loop-read-init : goal.loop-read-init
loop-read-init c =
    let none = c.default-count.ensures in
    (tallied_none c.default-count.result none.0 none.1, at_most_none c.default-count.result none.0 none.1)

pub loop-read-preserved : goal.loop-read-preserved
loop-read-preserved c = (
  tallied_read c.args.fitted.now.nest.grid.rows c.args.fitted.now.deals (said c.args.statement.now) c.owners_of-source.result c.owners_of-target.result c.as_slice-reads.result.now c.loop-read.read-index _
      c.loop-read.count c.note_read.new.count c.loop-read-test.true c.owners_of-source.ensures c.owners_of-target.ensures c.loop-read.invariant.0 c.note_read.ensures.noted,
  at_most_wider (1024 * c.loop-read.read-index + 1024) _ c.note_read.new.count (omega arith) (c.note_read.ensures.room (1024 * c.loop-read.read-index) c.loop-read.invariant.1),
)

pub returns : goal.returns
returns c =
    let s : Said = said c.args.statement.now in
    let few = few_reads c.args.fitted.now.nest.arrays s c.requires in
    let same : length c.as_slice-reads.result.now ≡ length s.reads = ap length c.as_slice-reads.ensures.value in
    let all = tallied_all c.args.fitted.now.nest.grid.rows c.args.fitted.now.deals s c.as_slice-reads.result.now c.loop-read.read-index c.loop-read.count c.as_slice-reads.ensures.value c.loop-read-test.false c.loop-read.invariant.0 in
    record {
      pairs = tallied_pairs c.loop-read.count _ all;
      all = all.1;
      room = at_most_wider (1024 * c.loop-read.read-index) 4096 c.loop-read.count (omega (arith, c.loop-read.auto)) c.loop-read.invariant.1;
    }
