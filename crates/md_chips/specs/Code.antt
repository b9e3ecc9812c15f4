-- Chips and board as lists of numbers, and back.
use Rattle.std.specs.Prelude.{◌≡◌, ℕ, ◌⊎◌, Bool, true, false, refl, Option, Some, None}
use Rattle.std.proofs.Common.{inl, inr}
use Rattle.md_word.specs.Coding.{Way, number, flag, integer, both, either, many, maybe, by_way}
use Rattle.md_word.specs.declared.main_bus.Answer68.{Answer68}
use Rattle.md_word.specs.declared.main_bus.Transfer.{Transfer}
use Rattle.md_word.specs.declared.regs.Regs.{Regs}
use Rattle.m68k_chip.specs.States.{State68}
use Rattle.m68k_chip.specs.declared.stage.Stage.{Stage}
use Rattle.m68k_chip.specs.declared.stage.Stage.TheVariants.{Sample, Access, Word}
use Rattle.z80_chip.specs.States.{State80}
use Rattle.z80_chip.specs.declared.stage.Stage.{Stage as Stage80}
use Rattle.z80_chip.specs.declared.stage.Stage.TheVariants as stages80
use Rattle.z80_decode.specs.declared.interrupt_mode.InterruptMode.{InterruptMode}
use Rattle.z80_decode.specs.declared.interrupt_mode.InterruptMode.TheVariants.{Mode0, Mode1, Mode2}
use Rattle.z80_exec.specs.declared.regs80.Regs80.{Regs80}
use Rattle.z80_parcel.specs.Parcels.{Store}
use Rattle.z80_parcel.specs.Requests.{AnswerValue80, Byte, Nothing, Returned}
use Rattle.psg_sound.specs.Synth.{Synth}
use Rattle.psg_sound.specs.declared.divider.Divider.{Divider}
use Rattle.psg_sound.specs.declared.noise.Noise.{Noise}
use Rattle.psg_sound.specs.declared.tone.Tone.{Tone}
use Rattle.psg_sound.specs.declared.write.PsgWrite.{PsgWrite}
use Rattle.chip_core.specs.Codes.{key_way}
use Rattle.bus_shared.specs.Board.{Board}
use Rattle.md_pads.specs.Pad.{Port as PadPort}
use Rattle.md_pads.specs.Recording.{Frame, Recorded}
use Rattle.md_pads.specs.declared.version.Version.{Version}
use Rattle.md_pads.specs.declared.version.Version.TheVariants.{First, Second}
use Rattle.md_chips.specs.FmCode.{fm_way, port_way}
use Rattle.md_chips.specs.VdpCode.{renderer_way, vdp_way}
use Rattle.md_chips.specs.Parts.{RendererValue, FmValue, MainValue, PsgValue, SubValue}
use Rattle.md_chips.specs.declared.chips.Chip.{Chip}
use Rattle.md_chips.specs.declared.chips.Chip.TheVariants.{Main, Sub, Renderer, Fm, Psg}

-- the way of the 68000's registers
abbrev pub regs_way : Way Regs
regs_way =
    by_way (both (both (many number) (many number)) (both (both number number) (both number number)))
    (λ r. ((r.d, r.a), ((r.usp, r.ssp), (r.pc, r.sr))))
    (λ p. record { d = p.0.0; a = p.0.1; usp = p.1.0.0; ssp = p.1.0.1; pc = p.1.1.0; sr = p.1.1.1 }) (λ r. refl)

-- a stage by two flags: whether an access is next, and whether it is a word
abbrev pub stage_of : Bool → Bool → Stage
stage_of false word = Sample
stage_of true false = Access
stage_of true true = Word

-- whether an access is next, of a chip or of a transfer
abbrev pub is_access : Stage → Bool
is_access Sample = false
is_access Access = true
is_access Word = true

-- whether a word of a transfer is next
abbrev pub is_word : Stage → Bool
is_word Sample = false
is_word Access = false
is_word Word = true

-- the two flags give the stage
pub stage_same : (stage : Stage) → stage_of (is_access stage) (is_word stage) ≡ stage
stage_same Sample = refl
stage_same Access = refl
stage_same Word = refl

-- the way of a stage
abbrev pub stage_way : Way Stage
stage_way = by_way (both flag flag) (λ s. (is_access s, is_word s)) (λ p. stage_of p.0 p.1) stage_same

-- a stage of the Z80 by two flags: whether an access is next, and whether RAM moves
abbrev pub stage80_of : Bool → Bool → Stage80
stage80_of false false = stages80.Sample
stage80_of false true = stages80.Take
stage80_of true false = stages80.Access
stage80_of true true = stages80.Yield

-- the two flags of a stage of the Z80
abbrev pub stage80_flags : Stage80 → Bool × Bool
stage80_flags stages80.Sample = (false, false)
stage80_flags stages80.Access = (true, false)
stage80_flags stages80.Yield = (true, true)
stage80_flags stages80.Take = (false, true)

-- the two flags give the stage
pub stage80_same : (stage : Stage80) → stage80_of (stage80_flags stage).0 (stage80_flags stage).1 ≡ stage
stage80_same stages80.Sample = refl
stage80_same stages80.Access = refl
stage80_same stages80.Yield = refl
stage80_same stages80.Take = refl

-- the way of a stage of the Z80
abbrev pub stage80_way : Way Stage80
stage80_way = by_way (both flag flag) stage80_flags (λ p. stage80_of p.0 p.1) stage80_same

-- an interrupt mode by two flags
abbrev pub mode_of : Bool → Bool → InterruptMode
mode_of false second = Mode0
mode_of true false = Mode1
mode_of true true = Mode2

-- the two flags of an interrupt mode
abbrev pub mode_flags : InterruptMode → Bool × Bool
mode_flags Mode0 = (false, false)
mode_flags Mode1 = (true, false)
mode_flags Mode2 = (true, true)

-- the two flags give the mode
pub mode_same : (mode : InterruptMode) → mode_of (mode_flags mode).0 (mode_flags mode).1 ≡ mode
mode_same Mode0 = refl
mode_same Mode1 = refl
mode_same Mode2 = refl

-- the way of an interrupt mode
abbrev pub mode_way : Way InterruptMode
mode_way = by_way (both flag flag) mode_flags (λ p. mode_of p.0 p.1) mode_same

-- the way of a transfer
abbrev pub transfer_way : Way Transfer
transfer_way =
    by_way (both number (both number number)) (λ t. (t.source, (t.words, t.cost)))
    (λ p. record { source = p.0; words = p.1.0; cost = p.1.1 }) (λ t. refl)

-- the way of the 68000's state
abbrev pub state_way : Way State68
state_way =
    by_way
    (both (both (both number stage_way) (both number regs_way)) (both (both (both flag flag) (both (maybe number) number)) (both (many number) (both transfer_way (many number)))))
    (λ s. (((s.next, s.stage), (s.start, s.regs)), (((s.stopped, s.trace), (s.halted, s.cause)), (s.answers, (s.transfer, s.ram)))))
    (λ p. record {
      next = p.0.0.0;
      stage = p.0.0.1;
      start = p.0.1.0;
      regs = p.0.1.1;
      stopped = p.1.0.0.0;
      trace = p.1.0.0.1;
      halted = p.1.0.1.0;
      cause = p.1.0.1.1;
      answers = p.1.1.0;
      transfer = p.1.1.1.0;
      ram = p.1.1.1.1;
    })
    (λ s. refl)

-- the way of an answer
abbrev pub answer_way : Way Answer68
answer_way =
    by_way (both number (both (maybe transfer_way) number)) (λ a. (a.value, (a.transfer, a.cost)))
    (λ p. record { value = p.0; transfer = p.1.0; cost = p.1.1 }) (λ a. refl)

-- the way of the 68000 with its cartridge and the answer that it keeps
abbrev pub main_way : Way MainValue
main_way =
    by_way (both (both (many number) state_way) (maybe answer_way)) (λ c. ((c.chip.cart, c.chip.state), c.answer))
    (λ p. record { chip = record { cart = p.0.0; state = p.0.1 }; answer = p.1 }) (λ c. refl)

-- the way of a divider
abbrev pub divider_way : Way Divider
divider_way = by_way (both number flag) (λ d. (d.counter, d.bit)) (λ p. record { counter = p.0; bit = p.1 }) (λ d. refl)

-- the way of a tone channel
abbrev pub tone_way : Way Tone
tone_way =
    by_way (both number (both number divider_way)) (λ t. (t.period, (t.volume, t.divider)))
    (λ p. record { period = p.0; volume = p.1.0; divider = p.1.1 }) (λ t. refl)

-- the way of the noise channel
abbrev pub noise_way : Way Noise
noise_way =
    by_way (both (both number number) (both divider_way number)) (λ n. ((n.control, n.volume), (n.divider, n.register)))
    (λ p. record { control = p.0.0; volume = p.0.1; divider = p.1.0; register = p.1.1 }) (λ n. refl)

-- the way of the sound generator
abbrev pub synth_way : Way Synth
synth_way =
    by_way (both number (both (both tone_way tone_way) (both tone_way noise_way)))
    (λ s. (s.latch, ((s.tone1, s.tone2), (s.tone3, s.noise))))
    (λ p. record { latch = p.0; tone1 = p.1.0.0; tone2 = p.1.0.1; tone3 = p.1.1.0; noise = p.1.1.1 }) (λ s. refl)

-- the way of a write to the sound generator
abbrev pub write_way : Way PsgWrite
write_way = by_way (both key_way number) (λ w. (w.key, w.value)) (λ p. record { key = p.0; value = p.1 }) (λ w. refl)

-- the way of the sound generator as a chip
abbrev pub psg_way : Way PsgValue
psg_way =
    by_way (both (both synth_way number) (both (many write_way) (many integer)))
    (λ c. ((c.synth, c.cycle), (c.taken, c.samples)))
    (λ p. record { synth = p.0.0; cycle = p.0.1; taken = p.1.0; samples = p.1.1 }) (λ c. refl)

-- the way of the Z80's registers
abbrev pub regs80_way : Way Regs80
regs80_way =
    by_way (both (both (both (both number number) (both number number)) (both (both number number) (both number number))) (both (both (both number number) (both number number)) (both (both number number) (both flag (both flag mode_way)))))
    (λ r. ((((r.af, r.bc), (r.de, r.hl)), ((r.af2, r.bc2), (r.de2, r.hl2))), (((r.ix, r.iy), (r.sp, r.pc)), ((r.i, r.r), (r.iff1, (r.iff2, r.mode))))))
    (λ p. record {
      af = p.0.0.0.0;
      bc = p.0.0.0.1;
      de = p.0.0.1.0;
      hl = p.0.0.1.1;
      af2 = p.0.1.0.0;
      bc2 = p.0.1.0.1;
      de2 = p.0.1.1.0;
      hl2 = p.0.1.1.1;
      ix = p.1.0.0.0;
      iy = p.1.0.0.1;
      sp = p.1.0.1.0;
      pc = p.1.0.1.1;
      i = p.1.1.0.0;
      r = p.1.1.0.1;
      iff1 = p.1.1.1.0;
      iff2 = p.1.1.1.1.0;
      mode = p.1.1.1.1.1;
    })
    (λ r. refl)

-- the way of RAM and bank register
abbrev pub store_way : Way Store
store_way = by_way (both (many number) number) (λ s. (s.ram, s.bank)) (λ p. record { ram = p.0; bank = p.1 }) (λ s. refl)

-- the way of the Z80's state
abbrev pub state80_way : Way State80
state80_way =
    by_way (both (both (both number stage80_way) (both number regs80_way)) (both (both (both flag flag) (both number number)) (both (many number) (maybe store_way))))
    (λ s. (((s.next, s.stage), (s.start, s.regs)), (((s.halted, s.after_ei), (s.resets, s.cause)), (s.answers, s.store))))
    (λ p. record {
      next = p.0.0.0;
      stage = p.0.0.1;
      start = p.0.1.0;
      regs = p.0.1.1;
      halted = p.1.0.0.0;
      after_ei = p.1.0.0.1;
      resets = p.1.0.1.0;
      cause = p.1.0.1.1;
      answers = p.1.1.0;
      store = p.1.1.1;
    })
    (λ s. refl)

-- what is reported to the Z80 as a sum
abbrev pub reported_sum : AnswerValue80 → ℕ ⊎ (Option Store)
reported_sum (Byte value) = inl value
reported_sum Nothing = inr None
reported_sum (Returned store) = inr (Some store)

-- nothing is reported, or RAM and bank register that return
abbrev pub reported_back : Option Store → AnswerValue80
reported_back None = Nothing
reported_back (Some store) = Returned store

-- what is reported to the Z80, from its sum
abbrev pub reported_of : ℕ ⊎ (Option Store) → AnswerValue80
reported_of (inl value) = Byte value
reported_of (inr store) = reported_back store

-- what is reported to the Z80 by its sum
pub reported_same : (t : AnswerValue80) → reported_of (reported_sum t) ≡ t
reported_same (Byte value) = refl
reported_same Nothing = refl
reported_same (Returned store) = refl

-- the way of what is reported to the Z80
abbrev pub reported_way : Way AnswerValue80
reported_way = by_way (either number (maybe store_way)) reported_sum reported_of reported_same

-- the way of the Z80 with its cartridge and the answer that it keeps
abbrev pub sub_way : Way SubValue
sub_way =
    by_way (both (both (many number) state80_way) (maybe reported_way)) (λ c. ((c.chip.cart, c.chip.state), c.answer))
    (λ p. record { chip = record { cart = p.0.0; state = p.0.1 }; answer = p.1 }) (λ c. refl)

-- the kinds of chips as a sum
abbrev pub Sum : Type 0
Sum = MainValue ⊎ (SubValue ⊎ (RendererValue ⊎ (FmValue ⊎ PsgValue)))

-- the sum of a chip
abbrev pub sum_of : Chip → Sum
sum_of (Main c) = inl c
sum_of (Sub c) = inr (inl c)
sum_of (Renderer c) = inr (inr (inl c))
sum_of (Fm c) = inr (inr (inr (inl c)))
sum_of (Psg c) = inr (inr (inr (inr c)))

-- the chip of a sum, from FM on
abbrev pub late_of : FmValue ⊎ PsgValue → Chip
late_of (inl c) = Fm c
late_of (inr c) = Psg c

-- the chip of a sum, from the lines on
abbrev pub middle_of : RendererValue ⊎ (FmValue ⊎ PsgValue) → Chip
middle_of (inl c) = Renderer c
middle_of (inr c) = late_of c

-- the chip of a sum, from the Z80 on
abbrev pub early_of : SubValue ⊎ (RendererValue ⊎ (FmValue ⊎ PsgValue)) → Chip
early_of (inl c) = Sub c
early_of (inr c) = middle_of c

-- the chip of a sum
abbrev pub chip_of : Sum → Chip
chip_of (inl c) = Main c
chip_of (inr c) = early_of c

-- a chip's sum gives the chip
pub chip_same : (c : Chip) → chip_of (sum_of c) ≡ c
chip_same (Main c) = refl
chip_same (Sub c) = refl
chip_same (Renderer c) = refl
chip_same (Fm c) = refl
chip_same (Psg c) = refl

-- the way of a chip
abbrev pub chip_way : Way Chip
chip_way = by_way (either main_way (either sub_way (either renderer_way (either fm_way psg_way)))) sum_of chip_of chip_same

-- the way of the two words of the pads
abbrev pub frame_way : Way Frame
frame_way = both number number

-- a recording's version by the flags of its pads, which the first has none of
abbrev pub flags_of : Version → Option (Bool × Bool)
flags_of First = None
flags_of (Second pad1 pad2) = Some (pad1, pad2)

-- the version of these flags
abbrev pub version_of : Option (Bool × Bool) → Version
version_of None = First
version_of (Some flags) = Second flags.0 flags.1

-- a version's flags give the version
pub version_same : (v : Version) → version_of (flags_of v) ≡ v
version_same First = refl
version_same (Second pad1 pad2) = refl

-- the way of a recording
abbrev pub recording_way : Way Recorded
recording_way =
    by_way (both (by_way (maybe (both flag flag)) flags_of version_of version_same) (many frame_way)) (λ r. (r.version, r.frames))
    (λ p. record { version = p.0; frames = p.1 }) (λ r. refl)

-- the way of a pad's port
abbrev pub pad_way : Way PadPort
pad_way =
    by_way (both (both number number) (both number number)) (λ l. ((l.value, l.control), (l.count, l.fall)))
    (λ p. record { value = p.0.0; control = p.0.1; count = p.1.0; fall = p.1.1 }) (λ l. refl)

-- the way of the board
abbrev pub board_way : Way Board
board_way =
    by_way (both (both (both recording_way frame_way) (both pad_way pad_way)) (both (both (both (many write_way) port_way) flag) (both (both flag number) (both (maybe store_way) vdp_way))))
    (λ b. (((b.recording, b.pads), (b.port1, b.port2)), (((b.psg, b.fm), b.request), ((b.reset, b.resets), (b.store, b.vdp)))))
    (λ p. record {
      recording = p.0.0.0;
      pads = p.0.0.1;
      port1 = p.0.1.0;
      port2 = p.0.1.1;
      psg = p.1.0.0.0;
      fm = p.1.0.0.1;
      request = p.1.0.1;
      reset = p.1.1.0.0;
      resets = p.1.1.0.1;
      store = p.1.1.1.0;
      vdp = p.1.1.1.1;
    })
    (λ b. refl)
