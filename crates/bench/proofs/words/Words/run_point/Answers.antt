use Rattle.std.proofs.Common.{refl, arith}
use Rattle.layout.specs.Layout.{standing_in}
use Rattle.bench.proofs.Tasks.{slot_fits, start_lent, point_writes}
use Rattle.bench.proofs.words.Words.run_point.Goals as goal

pub overflow_add-self : goal.overflow_add-self
overflow_add-self c = omega (arith, slot_fits _ _ _ c.old_slot-slot.ensures)

pub offset_bounds-self-at : goal.offset_bounds-self-at
offset_bounds-self-at c = omega (arith, slot_fits _ _ _ c.old_slot-slot.ensures)

pub bounds-self-at : goal.bounds-self-at
bounds-self-at c = let room = c.requires.ready.room in omega (arith, slot_fits _ _ _ c.old_slot-slot.ensures)

pub overflow_mul-self : goal.overflow_mul-self
overflow_mul-self c =
    let v = c.args.point.0 in
    let r = c.requires.ready.range in
    omega (arith, start_lent c.tables.result _ _ _ c.tables.ensures.is v, r.starts_are_corners v c.requires.there)

pub returns : goal.returns
returns c =
    let ws = c.args.self.now.cells.now in
    let F = c.args.size.quads in
    let V = c.args.size.points in
    point_writes F V c.args.point.0 _ _ _ _ ws c.words.ensures c.ran_from.ensures
    (c.old_slot-slot.ensures (standing_in ws F V) refl) (start_lent c.tables.result _ _ _ c.tables.ensures.is c.args.point.0)
