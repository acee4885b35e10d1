-- The rows from one number to another are those that scratch names, and the others the old ones.
use Rattle.std.proofs.Common.{rules, arith, [], get_or, ◌+◌, ◌*◌, ◌<◌, ◌≤◌, ◌≡◌}
use Rattle.std.proofs.iter.Serving.{serving}
use Rattle.nesting.proofs.Cleared.{scratch_size_lem}
use Rattle.vpa.proofs.FromFn.{made_each}
use Rattle.table.proofs.Quads.{quad_byte}
use Rattle.relation.proofs.Owned.{owned}
use Rattle.triples.proofs.Marks.{gathers_made}
use Rattle.triples.proofs.gathered.Goals as goal

pub from_fn-requires : goal.from_fn-requires
from_fn-requires c =
    let a = c.args in
    let room = c.requires.to_bound in
    let named : (k : _) → a.from ≤ k → k < a.to → get_or (get_or c.as_chunks.result.0.now k []) a.place 0 < 64 =
    λ k m n. rw (c.as_chunks.ensures.front, quad_byte a.scratch.now k a.place [] (omega (arith, scratch_size_lem, room)) (omega (arith, room))) (c.requires.by_index k m n) in
    grind (serving, scratch_size_lem, c.as_chunks.ensures.front_len, named)

pub returns : goal.returns
returns c =
    let a = c.args in
    let room = c.requires.to_bound in
    let e : (k : _) → k < 64 → get_or (get_or c.as_chunks.result.0.now k []) a.place 0 ≡ get_or a.scratch.now (4 * k + a.place) 0 =
    λ k l. rw c.as_chunks.ensures.front (quad_byte a.scratch.now k a.place [] (omega (arith, scratch_size_lem, room)) (omega (arith, room))) in
    let row : (k : _) → k < 64 → (a.from ≤ k → k < a.to → get_or c.from_fn.result k 0 ≡ get_or a.named (get_or (get_or c.as_chunks.result.0.now k []) a.place 0) 0)
    × (k < a.from → get_or c.from_fn.result k 0 ≡ get_or a.old k 0) × (a.to ≤ k → get_or c.from_fn.result k 0 ≡ get_or a.old k 0) =
    made_each
    (λ k y. (a.from ≤ k → k < a.to → y ≡ get_or a.named (get_or (get_or c.as_chunks.result.0.now k []) a.place 0) 0)
    × (k < a.from → y ≡ get_or a.old k 0) × (a.to ≤ k → y ≡ get_or a.old k 0))
    (λ k y q h. (search rules, (λ m n. grind (arith, c.as_chunks.ensures.front_len), λ m. grind arith, λ m. grind arith)))
    c.from_fn.ensures.items 0 in
    gathers_made (owned a.old _ c.well_formed.0).rows c.from_fn.ensures.items.long c.requires.to_bound.0 (λ k l m n. rw (e k l) at ((row k l).0 m n)) (λ k l. (row k l).1) (λ k l. (row k l).2)
