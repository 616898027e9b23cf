-- What a legal trace tells, together.
use Rattle.std.specs.Prelude.{List}
use Rattle.sx_trace.specs.declared.items.Item.{Item}
use Rattle.sx_mean.specs.Application.{AppTree}
use Rattle.sx_model.specs.Consequences.{TellsReader}
use Rattle.sx_model.specs.Legal.{Legal}
use Rattle.sx_model.proofs.Rise.{takes_rise, opens_rise}
use Rattle.sx_model.proofs.ReadsAreSensed.{reads_are_sensed}
use Rattle.sx_model.proofs.OutsAreCaused.{outs_are_caused}

pub tells : (app : AppTree) (items : List Item) → Legal app items → TellsReader app items
tells app items legal = record {
  takes_rise = takes_rise app items legal;
  opens_rise = opens_rise app items legal;
  reads_are_sensed = reads_are_sensed app items legal;
  outs_are_caused = outs_are_caused app items legal;
}
