-- What a saved state keeps of the Z80: its numbers, whatever they are, with their order, their sizes
-- and their rules. This project's profile.
use Rattle.std.specs.Prelude.{ℕ, zero, suc, ◌+◌, ◌*◌, ◌==◌, ◌&&◌, ◌||◌, Bool, true, false, not, nat_le, nat_lt, if◌then◌else◌, List, [], ◌∷◌, ◌++◌, length, take, drop, slice_index, Option, Some, None, is_some, Result, Ok, Err}
use Rattle.md_word.specs.Coding.{flag_number}
use Rattle.md_word.specs.declared.sub_bus.Request80.{Request80}
use Rattle.md_word.specs.declared.sub_bus.Request80.TheVariants as requests
use Rattle.md_fields.specs.Distances.{is_after, is_soon}
use Rattle.md_fields.specs.Fields.{Field, byte, word, quad, block}
use Rattle.md_fields.specs.Padding.{are_zeros, padded}
use Rattle.z80_decode.specs.declared.interrupt_mode.InterruptMode.{InterruptMode}
use Rattle.z80_decode.specs.declared.interrupt_mode.InterruptMode.TheVariants.{Mode0, Mode1, Mode2}
use Rattle.z80_exec.specs.declared.regs80.Regs80.{Regs80}
use Rattle.z80_exec.specs.Sample.Samples.{Ended}
use Rattle.z80_parcel.specs.Parcels.{Store, banks}
use Rattle.z80_parcel.specs.Spelling.{store_fields}
use Rattle.z80_chip.specs.Events.{carried_out, first_step, step}
use Rattle.z80_chip.specs.States.{State80}
use Rattle.z80_chip.specs.declared.need.Need.{Need}
use Rattle.z80_chip.specs.declared.need.Need.TheVariants as needs
use Rattle.z80_chip.specs.declared.saved.Saved80.{Saved80}
use Rattle.z80_chip.specs.declared.stage.Stage.{Stage}
use Rattle.z80_chip.specs.declared.stage.Stage.TheVariants.{Sample, Access, Yield, Take}

-- the numbers, and RAM and bank register where the Z80 has them
pub record Kept80 : Type 0 where
  pub numbers : Saved80
  pub store : Option Store

-- a stage by its number
abbrev pub stage_number : Stage → ℕ
stage_number Sample = 0
stage_number Access = 1
stage_number Yield = 2
stage_number Take = 3

-- the stage of a number; above 2 a take
abbrev pub stage_of : ℕ → Stage
stage_of n = if n == 0 then Sample else (if n == 1 then Access else (if n == 2 then Yield else Take))

-- an interrupt mode by the number of IM
abbrev pub mode_number : InterruptMode → ℕ
mode_number Mode0 = 0
mode_number Mode1 = 1
mode_number Mode2 = 2

-- the interrupt mode of a number; above 1 mode 2
abbrev pub mode_of : ℕ → InterruptMode
mode_of n = if n == 0 then Mode0 else (if n == 1 then Mode1 else Mode2)

-- the numbers that are kept of a state
abbrev pub numbers_of : State80 → Saved80
numbers_of state = record {
  next = state.next;
  stage = stage_number state.stage;
  start = state.start;
  af = state.regs.af;
  bc = state.regs.bc;
  de = state.regs.de;
  hl = state.regs.hl;
  af2 = state.regs.af2;
  bc2 = state.regs.bc2;
  de2 = state.regs.de2;
  hl2 = state.regs.hl2;
  ix = state.regs.ix;
  iy = state.regs.iy;
  sp = state.regs.sp;
  pc = state.regs.pc;
  i = state.regs.i;
  r = state.regs.r;
  iff1 = flag_number state.regs.iff1;
  iff2 = flag_number state.regs.iff2;
  mode = mode_number state.regs.mode;
  halted = flag_number state.halted;
  after_ei = flag_number state.after_ei;
  resets = state.resets;
  cause = state.cause;
  count = length state.answers;
  answers = padded 4 state.answers;
}

-- what is kept of a state
abbrev pub kept_of : State80 → Kept80
kept_of state = record { numbers = numbers_of state; store = state.store }

-- the registers of which these numbers are kept
abbrev pub regs_from : Saved80 → Regs80
regs_from s = record {
  af = s.af;
  bc = s.bc;
  de = s.de;
  hl = s.hl;
  af2 = s.af2;
  bc2 = s.bc2;
  de2 = s.de2;
  hl2 = s.hl2;
  ix = s.ix;
  iy = s.iy;
  sp = s.sp;
  pc = s.pc;
  i = s.i;
  r = s.r;
  iff1 = s.iff1 == 1;
  iff2 = s.iff2 == 1;
  mode = mode_of s.mode;
}

-- the state of which this is kept; a flag is set where its number is 1
abbrev pub state_from : Saved80 → Option Store → State80
state_from s store = record {
  next = s.next;
  stage = stage_of s.stage;
  start = s.start;
  regs = regs_from s;
  halted = s.halted == 1;
  after_ei = s.after_ei == 1;
  resets = s.resets;
  cause = s.cause;
  answers = take s.count s.answers;
  store = store;
}

-- at a sample start is next, at an access it is below `at`, and a yield or a take comes 60 cycles
-- after it
abbrev pub is_start : ℕ → Saved80 → Bool
is_start at s =
    if s.stage == 0 then s.start == s.next
    else (if s.stage == 1 then nat_lt s.start at else is_after s.next s.start first_step)

-- 0 or 1, and 0 outside accesses
abbrev pub is_cause : Saved80 → Bool
is_cause s = nat_le s.cause 1 && ((s.cause == 0) || (s.stage == 1))

-- at most three answers; an access comes 60 cycles after the start, and 45 more for each answer; at
-- other events there are none; unused places are 0
abbrev pub are_answers : Saved80 → Bool
are_answers s =
    nat_le s.count 3
    && ((if s.stage == 1 then is_after s.next s.start (first_step + step * s.count) else (s.count == 0))
    && are_zeros (drop s.count s.answers))

-- at an access and a yield the Z80 has its RAM, at a take it has none
abbrev pub is_holder : Bool → Saved80 → Bool
is_holder has s =
    if (s.stage == 1) || (s.stage == 2) then has
    else (if s.stage == 3 then not has else true)

-- what is carried out needs next
abbrev pub need_of : Result Ended Request80 → Need
need_of (Ok ended) = needs.Nothing
need_of (Err (requests.Read at)) = needs.Read
need_of (Err (requests.Write at value)) = needs.Write
need_of (Err (requests.Yield parcel)) = needs.Read
need_of (Err requests.Take) = needs.Read

-- the same once it has its first answers
abbrev pub need_after : List ℕ → State80 → ℕ → Need
need_after cart state count = need_of (carried_out cart (record state { answers = take count state.answers }) state.cause)

-- a write is answered by 0
abbrev pub is_answer : Need → ℕ → Bool
is_answer needs.Nothing value = true
is_answer needs.Read value = true
is_answer needs.Write value = value == 0

-- each of the first answers is one to the access that waited for it
unfoldable pub are_answered : List ℕ → State80 → ℕ → Bool
are_answered cart state zero = true
are_answered cart state (suc count) =
    are_answered cart state count && is_answer (need_after cart state count) (slice_index state.answers count)

-- whether a shared access is what is needed
abbrev pub is_access : Need → Bool
is_access needs.Nothing = false
is_access needs.Read = true
is_access needs.Write = true

-- what is carried out with the answers waits for one more, and these are answers to its accesses
unfoldable pub is_waiting : List ℕ → State80 → Bool
is_waiting cart state =
    is_access (need_after cart state (length state.answers)) && are_answered cart state (length state.answers)

-- the Z80 has a bank register, of nine bits
abbrev pub is_bank_right : Option Store → Bool
is_bank_right None = false
is_bank_right (Some store) = nat_lt store.bank banks

-- at an access, over a bank register of nine bits
abbrev pub asks_more : List ℕ → Kept80 → Bool
asks_more cart k =
    if (k.numbers.stage == 1) && is_bank_right k.store then is_waiting cart (state_from k.numbers k.store) else true

-- the fields in their order, and their rules; the last is whether RAM and bank register
-- follow, which the number of bytes shows
abbrev pub number_fields : ℕ → Bool → Saved80 → List Field
number_fields at has s =
    quad s.next (is_soon s.next at)
    ∷ byte s.stage (nat_le s.stage 3)
    ∷ quad s.start (is_start at s)
    ∷ word s.af true
    ∷ word s.bc true
    ∷ word s.de true
    ∷ word s.hl true
    ∷ word s.af2 true
    ∷ word s.bc2 true
    ∷ word s.de2 true
    ∷ word s.hl2 true
    ∷ word s.ix true
    ∷ word s.iy true
    ∷ word s.sp true
    ∷ word s.pc true
    ∷ byte s.i true
    ∷ byte s.r true
    ∷ byte s.iff1 (nat_le s.iff1 1)
    ∷ byte s.iff2 (nat_le s.iff2 1)
    ∷ byte s.mode (nat_le s.mode 2)
    ∷ byte s.halted (nat_le s.halted 1)
    ∷ byte s.after_ei (nat_le s.after_ei 1)
    ∷ quad s.resets true
    ∷ byte s.cause (is_cause s)
    ∷ byte s.count (are_answers s)
    ∷ block 4 s.answers true
    ∷ block 0 [] (is_holder has s)
    ∷ []

-- all fields in their order; `holds` is the rule of RAM, and `at` the cycle of the state
abbrev pub fields_by : ℕ → Bool → Kept80 → List Field
fields_by at holds k = number_fields at (is_some k.store) k.numbers ++ store_fields holds k.store

-- the fields in a saved state, by the cartridge's image and the cycle of the state
abbrev pub chip_fields : List ℕ → ℕ → Kept80 → List Field
chip_fields cart at k = fields_by at (asks_more cart k) k
