-- What was listed are the rows of the trimmed marks, and the ways that are gathered are theirs.
use Rattle.std.proofs.Common.{refl}
use Rattle.table.specs.Meaning.{meant}
use Rattle.relation.proofs.Owned.{owned}
use Rattle.nesting.proofs.CallLaws.{levels_inside}
use Rattle.triples.specs.Listing.{trio_rows, Appended}
use Rattle.triples.specs.Steps.{marks_of}
use Rattle.triples.proofs.Marks.{marks_listed, named_low, more_ways}
use Rattle.triples.proofs.list_marks_of.Goals.{After-list_openers-total}
use Rattle.triples.proofs.list_marks_of.Goals as goal

listed : (c : After-list_openers-total)
    → Appended 64 (trio_rows (marks_of (meant c.args.table.now) c.args.mark)) c.args.scratch.now c.args.ways.count c.list_openers-total.new.scratch c.list_openers-total.result
listed c =
    let is = c.requires.balanced_value in
    marks_listed _ c.args.table.now.good _ is.0 is.1 c.ways_in-inward.ensures c.ways_out-outward.ensures c.join.ensures c.join-2.ensures c.both-opening.ensures
    (owned _ _ c.both-opening.type_inv) c.list_openers-total.ensures

pub returns-then-total-gt-MARKS-clause-appended : goal.returns-then-total-gt-MARKS-clause-appended
returns-then-total-gt-MARKS-clause-appended c = listed (goal.at.returns-then-total-gt-MARKS-clause-appended c).After-list_openers-total

pub gathered-requires-clause-by_index : goal.gathered-requires-clause-by_index
gathered-requires-clause-by_index c = λ k l m.
    let rows = listed (goal.at.gathered-requires-clause-by_index c).After-list_openers-total in
    (named_low _ (levels_inside _ c.args.table.now.good) _ rows c.if-total-gt-MARKS.false k l m).0

pub gathered-requires-2-clause-by_index : goal.gathered-requires-2-clause-by_index
gathered-requires-2-clause-by_index c = λ k l m.
    let rows = listed (goal.at.gathered-requires-2-clause-by_index c).After-list_openers-total in
    (named_low _ (levels_inside _ c.args.table.now.good) _ rows c.if-total-gt-MARKS.false k l m).1

pub returns-clause-appended : goal.returns-clause-appended
returns-clause-appended c = listed (goal.at.returns-clause-appended c).After-list_openers-total

pub returns-clause-more_ways : goal.returns-clause-more_ways
returns-clause-more_ways c = λ few.
    let rows = listed (goal.at.returns-clause-more_ways c).After-list_openers-total in
    more_ways _ (levels_inside _ c.args.table.now.good) _ rows few refl c.ways_in-inward.ensures c.gathered.ensures c.ways_out-outward.ensures c.transposed.ensures c.gathered-2.ensures
