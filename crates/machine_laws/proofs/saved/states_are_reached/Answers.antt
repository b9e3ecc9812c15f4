use Rattle.m68k_chip.specs.Spelling as main
use Rattle.z80_chip.specs.Spelling as sub
use Rattle.vdp_ports.specs.Spelling as vdps
use Rattle.vdp_chip.specs.Spelling as renderer_states
use Rattle.fm_port.specs.PortSpelling as fm_port
use Rattle.psg_sound.specs.PortSpelling as psg_port
use Rattle.bus_shared.specs.Spelling as boards
use Rattle.md_chips.specs.Console.{renderer_state_in}
use Rattle.machine_laws.proofs.saved.states_are_reached.Goals as goal

pub returns : goal.returns
returns c = λ cart bytes state start buttons.
    let at = c.args.machine.now.at in
    let m = c.args.machine.now.console in
    let s = state.newest.saved in
    record {
      start = start;
      parts = c.parts_are_valid.ensures;
      processors = c.processors_of_states.ensures cart at (main.chip_bytes m.main) (sub.chip_bytes m.sub.state) s.image s.sub_image s.main s.sub s.one_owner s.resets;
      video = c.video_of_states.ensures at m.pal (vdps.vdp_bytes m.shared.vdp) (renderer_states.renderer_state_bytes (renderer_state_in m)) m s.shared.vdp s.renderer_state;
      lines = c.lines_of_states.ensures at m.pal (boards.board_bytes m.shared) m s.shared buttons;
      writes = c.writes_of_states.ensures at (fm_port.port_bytes m.shared.fm) (psg_port.port_bytes m.shared.psg) m s.shared.fm s.shared.psg s.fm_writes s.psg_writes;
      timers = c.timers_of_states.ensures at (fm_port.port_bytes m.shared.fm) m s.shared.fm;
    }
