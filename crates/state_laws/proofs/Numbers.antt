-- The numbers that are in bytes, whatever these are, one for each field of a chip's table.
use Rattle.std.proofs.Common.{◌≡◌, ℕ, zero, suc, ◌+◌, Bool, List, [], ◌∷◌, ◌++◌, length, take, drop, refl, ap, ◌∙◌, arith}
use Rattle.std.specs.Int.{w16}
use Rattle.md_fields.specs.Fields.{Field}
use Rattle.md_fields.specs.Places.{Stand, WordsAt, number_at}
use Rattle.m68k_chip.specs.Numbers.{Numbers68}
use Rattle.m68k_chip.specs.Saved as saved68
use Rattle.m68k_chip.specs.Spelling as main
use Rattle.z80_chip.specs.Saved as saved80
use Rattle.z80_chip.specs.Spelling as sub
use Rattle.z80_chip.specs.declared.saved.Saved80.{Saved80}
use Rattle.vdp_ports.specs.Numbers.{VdpNumbers}
use Rattle.vdp_ports.specs.Saved.{vdp_fields}
use Rattle.vdp_ports.specs.Spelling as video
use Rattle.vdp_chip.specs.Picture.{memory_length}
use Rattle.vdp_chip.specs.Saved as saved_renderer_state
use Rattle.vdp_chip.specs.Spelling as renderer_state
use Rattle.fm_port.specs.PortSpelling as fm_port
use Rattle.fm_port.specs.declared.saved_port.SavedPort.{SavedPort as FmNumbers}
use Rattle.psg_sound.specs.SynthSpelling as psg
use Rattle.psg_sound.specs.declared.saved_synth.SavedSynth.{SavedSynth as PsgNumbers}
use Rattle.bus_shared.specs.Saved.{lines_fields}
use Rattle.bus_shared.specs.Spelling.{lines_size}
use Rattle.bus_shared.specs.declared.saved_lines.SavedLines.{SavedLines}

-- so many words from an offset on
abbrev words_in : ℕ → ℕ → List ℕ → List ℕ
words_in zero place bytes = []
words_in (suc count) place bytes = number_at w16 place bytes ∷ words_in count (place + 2) bytes

words_long : (count place : ℕ) (bytes : List ℕ) → length (words_in count place bytes) ≡ count
words_long zero place bytes = refl
words_long (suc count) place bytes = ap suc (words_long count (place + 2) bytes)

words_read : (count place : ℕ) (bytes : List ℕ) → WordsAt (words_in count place bytes) place bytes
words_read zero place bytes k lt = absurd (omega (arith, lt))
words_read (suc count) place bytes zero lt = ap (λ (i : ℕ). number_at w16 i bytes) (omega arith)
words_read (suc count) place bytes (suc k) lt = words_read count (place + 2) bytes k (omega (arith, lt)) ∙ ap (λ (i : ℕ). number_at w16 i bytes) (omega arith)

words_there : (count place : ℕ) (bytes : List ℕ) → (length (words_in count place bytes) ≡ count) × WordsAt (words_in count place bytes) place bytes
words_there count place bytes = (words_long count place bytes, words_read count place bytes)

-- the 68000
pub main_there : (bytes : List ℕ) → length bytes ≡ main.chip_size → (n : Numbers68) × ((at : ℕ) (holds : Bool) → Stand 0 (saved68.fields_by at holds n) bytes)
unfolding Stand
main_there bytes long = (
  record { next = _; stage = _; start = _; d0 = _; d1 = _; d2 = _; d3 = _; d4 = _; d5 = _; d6 = _; d7 = _; a0 = _; a1 = _; a2 = _; a3 = _; a4 = _; a5 = _; a6 = _; usp = _; ssp = _; pc = _; sr = _; stopped = _; halted = _; trace = _; since = _; cause = _; count = _; answers = words_in 32 104 bytes; source = _; words = _; cost = _; ram = _ },
  λ at holds. (refl, (refl, (refl, (refl, (refl, (refl, (refl, (refl, (refl, (refl, (refl, (refl, (refl, (refl, (refl, (refl, (refl, (refl, (refl, (refl, (refl, (refl, (refl, (refl, (refl, (refl, (refl, (refl, (words_there 32 104 bytes, (refl, (refl, (refl, (refl, long))))))))))))))))))))))))))))))))),
)

-- the Z80's numbers, with what follows them
pub sub_there : (bytes : List ℕ) → (n : Saved80) × ((at : ℕ) (has : Bool) (rest : List Field) → Stand sub.ram_offset rest bytes → Stand 0 (saved80.number_fields at has n ++ rest) bytes)
unfolding Stand
sub_there bytes = (
  record { next = _; stage = _; start = _; af = _; bc = _; de = _; hl = _; af2 = _; bc2 = _; de2 = _; hl2 = _; ix = _; iy = _; sp = _; pc = _; i = _; r = _; iff1 = _; iff2 = _; mode = _; halted = _; after_ei = _; resets = _; cause = _; count = _; answers = _ },
  λ at has rest following. (refl, (refl, (refl, (refl, (refl, (refl, (refl, (refl, (refl, (refl, (refl, (refl, (refl, (refl, (refl, (refl, (refl, (refl, (refl, (refl, (refl, (refl, (refl, (refl, (refl, (refl, (refl, following))))))))))))))))))))))))))),
)

-- the VDP
pub video_there : (bytes : List ℕ) → length bytes ≡ video.vdp_size → (n : VdpNumbers) × ((at : ℕ) (pal : Bool) → Stand 0 (vdp_fields at pal n) bytes)
unfolding Stand
video_there bytes long = (
  record { registers = _; vram = _; cram = words_in 64 65560 bytes; vsram = words_in 40 65688 bytes; pending = _; code = _; a = _; armed = _; dma_kind = _; byte = _; source = _; address = _; left = _; next_stamp = _; vertical = _; horizontal = _; overflow = _; collision = _; line_counter = _; int_from = _; int_to = _; tall = _ },
  λ at pal. (refl, (refl, (words_there 64 65560 bytes, (words_there 40 65688 bytes, (refl, (refl, (refl, (refl, (refl, (refl, (refl, (refl, (refl, (refl, (refl, (refl, (refl, (refl, (refl, (refl, (refl, (refl, long)))))))))))))))))))))),
)

-- its renderer
pub renderer_state_there : (bytes : List ℕ) → length bytes ≡ renderer_state.renderer_state_size → (n : saved_renderer_state.RendererStateNumbers) × ((at : ℕ) (pal : Bool) → Stand 0 (saved_renderer_state.renderer_state_fields at pal n) bytes)
unfolding Stand
renderer_state_there bytes long = (
  record { next = _; overflow = _; collision = _; picture = take memory_length (drop 10 bytes) },
  λ at pal. (refl, (refl, (refl, (refl, long)))),
)

-- latches and timers of the FM chip's port, with what follows them
pub fm_port_there : (bytes : List ℕ) → (n : FmNumbers) × ((at : ℕ) (rest : List Field) → Stand fm_port.count_offset rest bytes → Stand 0 (fm_port.number_fields at n ++ rest) bytes)
unfolding Stand
fm_port_there bytes = (
  record { first = _; second = _; high_a = _; low_a = _; number_b = _; control = _; run_a = _; next_a = _; run_b = _; next_b = _; flag_a = _; flag_b = _ },
  λ at rest following. (refl, (refl, (refl, (refl, (refl, (refl, (refl, (refl, (refl, (refl, (refl, (refl, following)))))))))))),
)

-- the PSG's synthesis
pub psg_there : (bytes : List ℕ) → length bytes ≡ psg.synth_size → (n : PsgNumbers) × Stand 0 (psg.synth_fields n) bytes
unfolding Stand
psg_there bytes long = (
  record { latch = _; period1 = _; period2 = _; period3 = _; control = _; volume1 = _; volume2 = _; volume3 = _; volume4 = _; counter1 = _; counter2 = _; counter3 = _; counter4 = _; bit1 = _; bit2 = _; bit3 = _; bit4 = _; register = _ },
  (refl, (refl, (refl, (refl, (refl, (refl, (refl, (refl, (refl, (refl, (refl, (refl, (refl, (refl, (refl, (refl, (refl, (refl, long)))))))))))))))))),
)

-- the board's lines and pads
pub lines_there : (bytes : List ℕ) → length bytes ≡ lines_size → (n : SavedLines) × ((at : ℕ) → Stand 0 (lines_fields at n) bytes)
unfolding Stand
lines_there bytes long = (
  record { bus_request = _; reset = _; resets = _; value1 = _; control1 = _; value2 = _; control2 = _; pads1 = _; pads2 = _; count1 = _; fall1 = _; count2 = _; fall2 = _ },
  λ at. (refl, (refl, (refl, (refl, (refl, (refl, (refl, (refl, (refl, (refl, (refl, (refl, (refl, long))))))))))))),
)
