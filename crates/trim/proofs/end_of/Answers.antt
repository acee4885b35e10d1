-- From the given place on the key stays the same up to the place that is found.
use Rattle.std.proofs.Common.{rules, ◌≡◌}
use Rattle.std.proofs.lemmas.Iterator.{IsFirst-from_position, YieldsList-from_slice}
use borrow.Author.Tests.{tests}
use Rattle.table.specs.Bytes.{word}
use Rattle.trim.proofs.Blocks.{end_found}
use Rattle.trim.proofs.end_of.Goals as goal

pub returns : goal.returns
returns c =
    let first =
    IsFirst-from_position _ _ _ (λ m. word m 0 ≡ c.args.key → ⊥) (λ m. word m 0 ≡ c.args.key) c.position-other.ensures.ran
    (YieldsList-from_slice _ c.iter.ensures.rest) (λ x q k. search (rules, tests)) (λ x q k. search (rules, tests)) in
    end_found c.args.part.now c.as_chunks.ensures.front c.as_chunks.ensures.front_len c.requires.0 c.requires.1 _ first c.unwrap_or.ensures
