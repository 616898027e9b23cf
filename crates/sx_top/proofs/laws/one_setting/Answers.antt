use Rattle.sx_asm.specs.Assembled.{assembled}
use Rattle.spec_run.specs.Accepted.{setting_of}
use Rattle.command_world.specs.Compiled.{compiled_texts}
use Rattle.command_deploy.proofs.Same.{runs_in}
use Rattle.command_run.specs.Promise.{run_part}
use Rattle.command_run.specs.Tells.{lines_part}
use Rattle.command_batch.specs.Promise.{batch_part}
use Rattle.command_drive.specs.Promise.{drive_part}
use Rattle.command_snap.specs.Promise.{snap_part}
use Rattle.sx_top.proofs.laws.one_setting.Goals as goal

pub returns : goal.returns
returns c = λ mac d. (setting_of mac d (compiled_texts d), runs_in mac (run_part assembled mac) d, runs_in mac (drive_part mac) d, runs_in mac (snap_part mac) d, runs_in mac (lines_part assembled mac) d, runs_in mac (batch_part assembled mac) d)
