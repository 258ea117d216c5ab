use Rattle.std.proofs.Common.{[], ◌∷◌, sym, ap, ◌∙◌, arith}
use lib.Bits.{bit_or}
use Rattle.kinds.proofs.Parts.{total_append}
use Rattle.attributes.specs.Unions.{all_bits_push}
use Rattle.attributes.proofs.influence.blend.InfluenceValueKind.add.Goals as goal

pub returns-in-Some-clause-adds : goal.returns-in-Some-clause-adds
returns-in-Some-clause-adds c = λ ps s few.
    let v = c.args.value.now in
    let w = c.args.weight in
    record {
      bits_are = ap (λ n. bit_or n v.bits) s.bits_are ∙ sym (all_bits_push ps v w);
      weight_is = let e = s.weight_is in let t = c.in-Some.ensures in omega (arith, total_append ps ((v, w) ∷ []));
    }
