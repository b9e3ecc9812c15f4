-- What is in the bytes of a state, part by part.
use Rattle.std.proofs.Common.{◌≡◌, ℕ, Bool, List, length, get_or, sym, ap, ◌∙◌, arith}
use Rattle.std.specs.Int.{w64}
use Rattle.std.specs.Prelude.{slice_index}
use Rattle.md_word.specs.Coding.{flag_number}
use Rattle.std.proofs.lemmas.List.{get_or_append_left}
use Rattle.md_fields.specs.Fields.{AreWithin, spelling}
use Rattle.md_fields.specs.Places.{IsBytes, Stand, number_at}
use Rattle.md_fields.proofs.Standing.{spelled_stand, spelled, number_inside, byte_inside}
use Rattle.m68k_chip.specs.Numbers as numbers68
use Rattle.m68k_chip.specs.Saved as saved68
use Rattle.m68k_chip.specs.Spelling as main
use Rattle.m68k_chip.specs.States.{State68}
use Rattle.z80_chip.specs.Saved as saved80
use Rattle.z80_chip.specs.Spelling as sub
use Rattle.z80_chip.specs.States.{State80}
use Rattle.vdp_ports.specs.Spelling.{vdp_bytes}
use Rattle.vdp_chip.specs.Spelling as renderer_state
use Rattle.fm_port.specs.PortSpelling as fm_port
use Rattle.fm_chip.specs.SynthSpelling as fm
use Rattle.psg_sound.specs.PortSpelling as psg_port
use Rattle.psg_sound.specs.SynthSpelling as psg
use Rattle.bus_shared.specs.Board.{Board}
use Rattle.bus_shared.specs.Saved.{lines_of, lines_fields}
use Rattle.bus_shared.specs.Spelling as shared
use Rattle.md_chips.specs.Console.{Console, renderer_state_in}
use Rattle.md_chips.specs.Starts.{first_batch}
use Rattle.save_state.specs.Items.{at_of, main_next, sub_next, stage_of, seen_resets, holder_in, resets_of}
use Rattle.save_state.specs.Layout.{board_part, digest_part, fm_next_part, fm_part, fm_port_part, magic_part, main_part, part_of, psg_next_part, psg_part, psg_port_part, region_part, renderer_state_part, state_size, store_part, sub_part, video_part}
use Rattle.save_state.specs.States.{mark, holder_of, store_of, number_bytes, state_fields}
use Rattle.save_state.proofs.Parts.{number_front, sub_joined, numbers_long}

-- each part of the bytes is the one of this machine
pub record AreParts (digest : List ℕ) (at : ℕ) (m : Console) (bytes : List ℕ) : Type 0 where
  pub long : length bytes ≡ state_size
  pub head : part_of magic_part bytes ≡ mark
  pub digest_is : part_of digest_part bytes ≡ digest
  pub at_is : at_of bytes ≡ at
  pub region : slice_index bytes region_part.place ≡ flag_number m.pal
  pub main : part_of main_part bytes ≡ main.chip_bytes m.main
  pub numbers : part_of sub_part bytes ≡ number_bytes m.sub.state
  pub holder : holder_in bytes ≡ holder_of m
  pub store : part_of store_part bytes ≡ shared.store_bytes (store_of m)
  pub video : part_of video_part bytes ≡ vdp_bytes m.shared.vdp
  pub renderer_state : part_of renderer_state_part bytes ≡ renderer_state.renderer_state_bytes (renderer_state_in m)
  pub fm_port : part_of fm_port_part bytes ≡ fm_port.port_bytes m.shared.fm
  pub fm_next : number_at w64 fm_next_part.place bytes ≡ first_batch at
  pub fm : part_of fm_part bytes ≡ fm.synth_bytes m.fm
  pub psg_next : number_at w64 psg_next_part.place bytes ≡ first_batch at
  pub psg_port : part_of psg_port_part bytes ≡ psg_port.port_bytes m.shared.psg
  pub psg : part_of psg_part bytes ≡ psg.synth_bytes m.psg
  pub lines : part_of board_part bytes ≡ shared.lines_bytes (lines_of m.shared)

pub parts_there : (digest : List ℕ) (at : ℕ) (m : Console) (bytes : List ℕ) → AreWithin (state_fields digest at m) → bytes ≡ spelling (state_fields digest at m) → AreParts digest at m bytes
unfolding Stand
parts_there digest at m bytes within e =
    let s0 = spelled_stand (state_fields digest at m) bytes within (sym e) in
    let s1 = s0.1 in
    let s2 = s1.1 in
    let s3 = s2.1 in
    let s4 = s3.1 in
    let s5 = s4.1 in
    let s6 = s5.1 in
    let s7 = s6.1 in
    let s8 = s7.1 in
    let s9 = s8.1 in
    let s10 = s9.1 in
    let s11 = s10.1 in
    let s12 = s11.1 in
    let s13 = s12.1 in
    let s14 = s13.1 in
    let s15 = s14.1 in
    let s16 = s15.1 in
    record {
      long = s16.1;
      head = sym s0.0;
      digest_is = sym s1.0;
      at_is = sym s2.0;
      region = sym s3.0;
      main = sym s4.0;
      numbers = sym s5.0;
      holder = sym s6.0;
      store = sym s7.0;
      video = sym s8.0;
      renderer_state = sym s9.0;
      fm_port = sym s10.0;
      fm_next = sym s11.0;
      fm = sym s12.0;
      psg_next = sym s13.0;
      psg_port = sym s14.0;
      psg = sym s15.0;
      lines = sym s16.0;
    }

pub parts_spelled : (digest : List ℕ) (at : ℕ) (m : Console) (bytes : List ℕ) → IsBytes bytes → AreParts digest at m bytes → bytes ≡ spelling (state_fields digest at m)
unfolding Stand
parts_spelled digest at m bytes fits p =
    sym (spelled (state_fields digest at m) bytes fits
    (sym p.head, (sym p.digest_is, (sym p.at_is, (sym p.region, (sym p.main, (sym p.numbers, (sym p.holder, (sym p.store, (sym p.video, (sym p.renderer_state, (sym p.fm_port, (sym p.fm_next, (sym p.fm, (sym p.psg_next, (sym p.psg_port, (sym p.psg, (sym p.lines, p.long))))))))))))))))))

-- ---- numbers in the parts

first_68 : (cart : List ℕ) (at : ℕ) (bytes : List ℕ) (s : State68) → main.Spells cart at bytes s → s.next ≡ number_at w64 0 bytes
unfolding Stand
first_68 cart at bytes s p = (spelled_stand (saved68.chip_fields cart at (numbers68.numbers_of s)) bytes p.keeps.within (sym p.keeps.all)).0

-- the next event of the 68000
pub main_next_is : (cart digest bytes : List ℕ) (at : ℕ) (m : Console) → AreParts digest at m bytes → main.Spells cart at (main.chip_bytes m.main) m.main → m.main.next ≡ main_next bytes
main_next_is cart digest bytes at m p s =
    first_68 cart at (main.chip_bytes m.main) m.main s ∙ ap (number_at w64 0) (sym p.main) ∙ number_inside w64 0 main_part.place main.chip_size bytes (omega arith)

pub record FirstNumbers (bytes : List ℕ) (s : State80) : Type 0 where
  pub next : s.next ≡ number_at w64 0 bytes
  pub stage : saved80.stage_number s.stage ≡ get_or bytes 8 0
  pub resets : s.resets ≡ number_at w64 48 bytes

first_80 : (cart : List ℕ) (at : ℕ) (bytes : List ℕ) (s : State80) → sub.Spells cart at bytes s → FirstNumbers bytes s
unfolding Stand
first_80 cart at bytes s p =
    let s0 = spelled_stand (saved80.chip_fields cart at (saved80.kept_of s)) bytes p.keeps.within (sym p.keeps.all) in
    record {
      next = s0.0;
      stage = s0.1.0;
      resets = s0.1.1.1.1.1.1.1.1.1.1.1.1.1.1.1.1.1.1.1.1.1.1.0;
    }

-- the next event of the Z80, its stage, and the resets that it has seen
pub record SubNumbers (bytes : List ℕ) (s : State80) : Type 0 where
  pub next : s.next ≡ sub_next bytes
  pub stage : saved80.stage_number s.stage ≡ stage_of bytes
  pub resets : s.resets ≡ seen_resets bytes

pub sub_numbers_are : (cart digest bytes : List ℕ) (at : ℕ) (m : Console) → AreParts digest at m bytes → sub.Spells cart at (sub.chip_bytes m.sub.state) m.sub.state → SubNumbers bytes m.sub.state
sub_numbers_are cart digest bytes at m p s =
    let first = first_80 cart at (sub.chip_bytes m.sub.state) m.sub.state s in
    let joined = sub_joined m.sub.state in
    let long = numbers_long cart at (sub.chip_bytes m.sub.state) m.sub.state s in
    let rest = shared.store_bytes m.sub.state.store in
    let numbers = number_bytes m.sub.state in
    record {
      next = first.next ∙ ap (number_at w64 0) joined ∙ number_front w64 0 numbers rest (omega (arith, long)) ∙ ap (number_at w64 0) (sym p.numbers) ∙ number_inside w64 0 sub_part.place sub.ram_offset bytes (omega arith);
      stage = first.stage ∙ ap (λ (l : List ℕ). get_or l 8 0) joined ∙ get_or_append_left numbers rest 0 8 (omega (arith, long)) ∙ ap (λ (l : List ℕ). get_or l 8 0) (sym p.numbers) ∙ byte_inside 8 sub_part.place sub.ram_offset bytes (omega arith);
      resets = first.resets ∙ ap (number_at w64 48) joined ∙ number_front w64 48 numbers rest (omega (arith, long)) ∙ ap (number_at w64 48) (sym p.numbers) ∙ number_inside w64 48 sub_part.place sub.ram_offset bytes (omega arith);
    }

first_lines : (at : ℕ) (pal : Bool) (b : Board) (bytes : List ℕ) → shared.Spells at pal bytes b → b.resets ≡ number_at w64 2 (shared.lines_bytes (lines_of b))
unfolding Stand
first_lines at pal b bytes p = (spelled_stand (lines_fields at (lines_of b)) (shared.lines_bytes (lines_of b)) p.lines.within (sym p.lines.all)).1.1.0

-- the count of resets
pub resets_are : (digest bytes : List ℕ) (at : ℕ) (pal : Bool) (m : Console) (whole : List ℕ) → AreParts digest at m bytes → shared.Spells at pal whole m.shared → m.shared.resets ≡ resets_of bytes
resets_are digest bytes at pal m whole p s =
    first_lines at pal m.shared whole s ∙ ap (number_at w64 2) (sym p.lines) ∙ number_inside w64 2 board_part.place shared.lines_size bytes (omega arith)
