use Rattle.std.proofs.Common.{[], ◌∷◌, arith}
use Rattle.kinds.proofs.Parts.{total_append}
use Rattle.attributes.specs.Limits.{fits, sum_fits, sum_next, sum_grows}
use Rattle.attributes.proofs.coordinates.blend.CoordinatesValueKind.add.Goals as goal

pub invariant_of-mix : goal.invariant_of-mix
invariant_of-mix c =
    let m = c.args.mix.now in
    let t = c.in-Some.ensures in
    record {
      xok = rw t (sum_grows c.more-mix.result m.x m.weight.taken c.args.weight (record { sfits = c.more-mix.type_inv }) m.weight.few m.xok c.more-mix.ensures.grows);
      yok = rw t (sum_grows c.more-mix-in-Some.result m.y m.weight.taken c.args.weight (record { sfits = c.more-mix-in-Some.type_inv }) m.weight.few m.yok c.more-mix-in-Some.ensures.grows);
      zok = rw t (sum_grows c.more-mix-in-Some-2.result m.z m.weight.taken c.args.weight (record { sfits = c.more-mix-in-Some-2.type_inv }) m.weight.few m.zok c.more-mix-in-Some-2.ensures.grows);
    }

pub returns-in-Some-clause-adds : goal.returns-in-Some-clause-adds
returns-in-Some-clause-adds c = λ ps s few.
    let m = c.args.mix.now in
    let v = c.args.value.now in
    let w = c.args.weight in
    record {
      weight_is = let e = s.weight_is in let t = c.in-Some.ensures in omega (arith, total_append ps ((v, w) ∷ []));
      x_is = sum_next (λ p. p.x) ps v w c.more-mix.result m.x (record { sfits = c.more-mix.type_inv }) (sum_fits m.x m.weight.taken m.weight.few m.xok) (fits v.x v.xok) c.more-mix.ensures.is s.x_is;
      y_is = sum_next (λ p. p.y) ps v w c.more-mix-in-Some.result m.y (record { sfits = c.more-mix-in-Some.type_inv }) (sum_fits m.y m.weight.taken m.weight.few m.yok) (fits v.y v.yok) c.more-mix-in-Some.ensures.is s.y_is;
      z_is = sum_next (λ p. p.z) ps v w c.more-mix-in-Some-2.result m.z (record { sfits = c.more-mix-in-Some-2.type_inv }) (sum_fits m.z m.weight.taken m.weight.few m.zok) (fits v.z v.zok) c.more-mix-in-Some-2.ensures.is s.z_is;
    }
