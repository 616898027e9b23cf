-- Images, and what it means that a call enters a module.
use Rattle.std.specs.Prelude.{◌≡◌, ℕ, ◌-◌, List, [], slice_index}
use Rattle.sx_lang.specs.Tree.{ModuleTree}
use Rattle.sx_mean.specs.Application.{declared_kind}
use Rattle.sx_mean.specs.declared.events.End.{End}
use Rattle.sx_rules.specs.declared.section.Layout.{Layout}
use Rattle.sx_rules.specs.declared.section.Section.{Section}
use Rattle.sx_rules.specs.Access.{Lives}
use Rattle.sx_tag.specs.Mac.{Mac}
use Rattle.spec_machine.specs.Memory.{bytes_from}
use Rattle.spec_machine.specs.Node.{IsNode}
use Rattle.spec_machine.specs.State.{State}
use Rattle.spec_machine.specs.Step.{pc_of}
use Rattle.spec_invocation.specs.Protocol.{entry_register, input_register, output_register, back_register}
use Rattle.spec_invocation.specs.Setup.{Setup, Call}
use Rattle.spec_invocation.specs.ModuleState.{state_of}
use Rattle.spec_invocation.specs.Devices.{HasDevices}
use Rattle.spec_invocation.specs.Progress.{Progress}

-- the bytes of a module's text, where it lies, and its provider
pub record Image : Type 0 where
  pub text : List ℕ
  pub layout : Layout
  pub provider : ℕ

-- the private bytes of a layout, each at its offset
abbrev pub private_bytes : Layout → List ℕ → List ℕ
private_bytes l mem = bytes_from mem l.priv_from (l.priv_to - l.priv_from)

-- the bytes of its text
abbrev pub public_bytes : Layout → List ℕ → List ℕ
public_bytes l mem = bytes_from mem l.pub_from (l.pub_to - l.pub_from)

-- the module is protected as this section, with the image's text, layout and provider
pub record StandsProtected (image : Image) (section : Section) (n : State) : Type 0 where
  pub lives : Lives n.sections.live section
  pub layout : section.layout ≡ image.layout
  pub provider : section.provider ≡ image.provider
  pub text : public_bytes image.layout n.mem ≡ image.text

-- no module runs, and PC is the entry of the module
pub record Enters (tree : ModuleTree) (image : Image) (section : Section) (n : State) : Type 0 where
  pub node : IsNode n
  pub idle : n.cur ≡ 0
  pub entry : pc_of n ≡ image.layout.pub_from
  pub stands : StandsProtected image section n
  pub devices : HasDevices n.devices (declared_kind tree.decls) image.layout

-- what is constant while a module runs on this node
abbrev pub setup_at : Mac → ModuleTree → List End → Section → State → Setup
setup_at mac tree ends section n =
    record { mac = mac; section = section; live = n.sections.live; tree = tree; ends = ends }

-- what the caller asks, in its registers
abbrev pub call_at : State → Call
call_at n = record {
  entry = slice_index n.regs entry_register;
  input = slice_index n.regs input_register;
  output = slice_index n.regs output_register;
  back = slice_index n.regs back_register;
}

-- an invocation begins with the state that the private section represents
abbrev pub progress_at : Setup → State → Progress
progress_at s n = record {
  state = state_of s.tree s.ends (private_bytes s.section.layout n.mem);
  mem = n.mem;
  devices = n.devices;
  marks = [];
  pieces = [];
}
