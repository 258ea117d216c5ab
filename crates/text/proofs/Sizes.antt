-- What is known of the tables of a lawful level.
use Rattle.std.proofs.Common.{◌≡◌, ◌*◌, ◌/◌, ◌≤◌, length, refl, arith}
use Rattle.mesh.specs.Causes.{mesh_of}
use Rattle.mesh.specs.Mesh.{Lawful}
use Rattle.tables.specs.Lent.{mesh}
use Rattle.tables.specs.declared.lent.Tables.{Tables}

pub record Sizes (t : Tables) : Type 0 where
  pub quads_are : (mesh t).quads ≡ length t.corners.now / 4
  pub points_are : (mesh t).points ≡ length t.starts.now
  pub corners_in_fours : length t.corners.now ≡ 4 * (length t.corners.now / 4)
  pub friends_by_quads : length t.friends.now ≡ 2 * (length t.corners.now / 4)
  pub marks_by_quads : length t.marks.now ≡ 2 * (length t.corners.now / 4)
  pub quads_few : length t.corners.now / 4 ≤ 1048576
  pub points_few : length t.starts.now ≤ 2097152

pub sizes : (t : Tables) → Lawful (mesh t) → Sizes t
unfolding mesh_of
sizes t l =
    let s = l.sound in
    let c = s.counted in
    let q = s.quads_few in
    let p = s.points_few in
    record {
      quads_are = refl;
      points_are = refl;
      corners_in_fours = c.corner_count;
      friends_by_quads = c.friend_count;
      marks_by_quads = c.mark_count;
      quads_few = q;
      points_few = omega arith;
    }
