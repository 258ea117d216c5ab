use Rattle.std.proofs.Common.{◌∙◌, ap₂, w32, w64}
use Rattle.std.proofs.lemmas.Int.{to_z-of_z}
use Rattle.attributes.specs.Coordinates.{same_coordinates}
use Rattle.attributes.specs.Nearest.{nearest}
use Rattle.attributes.specs.Limits.{sum_fits}
use Rattle.attributes.proofs.coordinates.blend.CoordinatesValueKind.finish.Goals as goal

pub returns : goal.returns
returns c = record {
  blends = λ ps s.
      let m = c.args.mix in
      same_coordinates _ _
      (to_z-of_z w32 _ (record { sfits = c.rounded.type_inv }) ∙ c.rounded.ensures.is ∙ ap₂ nearest (to_z-of_z w64 _ (sum_fits m.x m.weight.taken m.weight.few m.xok) ∙ s.x_is) s.weight_is)
      (to_z-of_z w32 _ (record { sfits = c.rounded-2.type_inv }) ∙ c.rounded-2.ensures.is ∙ ap₂ nearest (to_z-of_z w64 _ (sum_fits m.y m.weight.taken m.weight.few m.yok) ∙ s.y_is) s.weight_is)
      (to_z-of_z w32 _ (record { sfits = c.rounded-3.type_inv }) ∙ c.rounded-3.ensures.is ∙ ap₂ nearest (to_z-of_z w64 _ (sum_fits m.z m.weight.taken m.weight.few m.zok) ∙ s.z_is) s.weight_is);
}
