-- The rows of instructions that make no shared access.
use Rattle.std.proofs.Common.{◌≡◌, ℕ, ◌+◌, ◌*◌, ◌%◌, ◌^◌, ◌∙◌, false, Ok, Err, refl, sym, ap, subst, arith}
use Rattle.std.specs.Prelude.{IsFalse}
use Rattle.std.proofs.lemmas.Bool.Decides.{nat_tests}
use Rattle.md_word.specs.Fields.{address_of, flags_of, register_of}
use Rattle.md_word.specs.Map.{is_shared}
use Rattle.md_word.specs.Width.{extended, modulus_of}
use Rattle.md_word.specs.declared.main_bus.Request68.{Request68}
use Rattle.md_word.specs.declared.mode.Mode.{Mode}
use Rattle.md_word.specs.declared.mode.Mode.TheVariants.{Address, Data, Immediate}
use Rattle.md_word.specs.declared.regs.Regs.{Regs}
use Rattle.md_word.specs.declared.size.Size.{Size}
use Rattle.md_word.specs.declared.size.Size.TheVariants.{Byte, Long, Word}
use Rattle.md_word.specs.declared.task.Task.{Task}
use Rattle.md_word.specs.declared.task.Task.TheVariants as tasks
use Rattle.m68k_alu.specs.Tasks.{computed}
use Rattle.m68k_ea.specs.Places.{is_misaligned, place_of}
use Rattle.m68k_ea.specs.Steps.{stepped}
use Rattle.m68k_ea.specs.declared.places.Place.TheVariants as places
use Rattle.m68k_access.specs.Actions as actions
use Rattle.m68k_access.specs.Actions.{give, is_odd}
use Rattle.m68k_access.specs.Memory.{Memory, bus_address, byte_at, word_at}
use Rattle.m68k_access.specs.Operands as operands
use Rattle.m68k_access.specs.Outcomes.{Outcome, plain}
use Rattle.m68k_access.specs.Shapes as shapes
use Rattle.m68k_access.specs.declared.stop.Stop.TheVariants.{Ask}
use Rattle.m68k_access.specs.Shapes.{following}
use Rattle.m68k_exec.specs.Rows.Arithmetic as arithmetic
use Rattle.m68k_exec.specs.Rows.Comparisons as comparisons
use Rattle.m68k_exec.specs.Rows.Immediates as immediates
use Rattle.m68k_exec.specs.Rows.Links as links
use Rattle.m68k_exec.specs.Rows.Moves as moves
use Rattle.m68k_exec.specs.Rows.Moves.{after_source}
use Rattle.m68k_exec.specs.Rows.Registers as registers
use Rattle.m68k_exec.specs.Rows.Single as single
use Rattle.m68k_exec.specs.Sample.Private.{Reads}
use Rattle.m68k_exec.specs.Sample.Samples.{nothing}

-- ---- operands

pub reads-byte : (size : Size) (address at value : ℕ) (memory : Memory) → size ≡ Byte → at ≡ bus_address address → is_shared at ≡ false → value ≡ byte_at memory.rom memory.ram at → Reads (actions.read size address) value memory
unfolding actions.read actions.read_byte actions.byte_seen
reads-byte size address at value memory sized same inside is = rw sized (rw (sym same, inside, is) refl)

reads-one : (address at value : ℕ) (memory : Memory) → is_odd address ≡ false → at ≡ bus_address address → is_shared at ≡ false → value ≡ word_at memory.rom memory.ram at → Reads (actions.read_word address) value memory
unfolding actions.read_word actions.read_aligned actions.word_seen
reads-one address at value memory even same inside is = rw (even, sym same, inside, is) refl

pub reads-word : (size : Size) (address at value : ℕ) (memory : Memory) → size ≡ Word → IsFalse (is_misaligned size address) → at ≡ bus_address address → is_shared at ≡ false → value ≡ word_at memory.rom memory.ram at → Reads (actions.read size address) value memory
unfolding actions.read
reads-word size address at value memory sized even same inside is =
    rw sized (reads-one address at value memory (subst (λ (s : Size). IsFalse (is_misaligned s address)) sized even) same inside is)

even-next : (address : ℕ) → is_odd address ≡ false → is_odd ((address + 2) % 2 ^ 32) ≡ false
even-next address even = grind (arith, nat_tests, even)

pub reads-long : (size : Size) (address one other high low : ℕ) (memory : Memory) → size ≡ Long → IsFalse (is_misaligned size address) → one ≡ bus_address address → is_shared one ≡ false → high ≡ word_at memory.rom memory.ram one
    → other ≡ bus_address ((address + 2) % 2 ^ 32) → is_shared other ≡ false → low ≡ word_at memory.rom memory.ram other → Reads (actions.read size address) (high * 0x1_0000 + low) memory
unfolding actions.read actions.read_long
reads-long size address one other high low memory sized even first inside upper second within lower =
    let aligned : is_odd address ≡ false = subst (λ (s : Size). IsFalse (is_misaligned s address)) sized even in
    rw sized (rw (reads-one address one high memory aligned first inside upper) (rw (reads-one ((address + 2) % 2 ^ 32) other low memory (even-next address aligned) second within lower) refl))

pub reads-data : (n : ℕ) (size : Size) (pc value : ℕ) (regs : Regs) (memory : Memory) → value ≡ register_of regs n % modulus_of size → Reads (operands.load (Data n) size pc regs) (record { value = value; regs = regs }) memory
unfolding operands.load operands.fetch
reads-data n size pc value regs memory is = rw is refl

pub reads-address : (n : ℕ) (size : Size) (pc value : ℕ) (regs : Regs) (memory : Memory) → value ≡ register_of regs (n + 8) % modulus_of size → Reads (operands.load (Address n) size pc regs) (record { value = value; regs = regs }) memory
unfolding operands.load operands.fetch
reads-address n size pc value regs memory is = rw is refl

pub reads-number : (number : ℕ) (size : Size) (pc value : ℕ) (regs : Regs) (memory : Memory) → value ≡ number % modulus_of size → Reads (operands.load (Immediate number) size pc regs) (record { value = value; regs = regs }) memory
unfolding operands.load operands.fetch
reads-number number size pc value regs memory is = rw is refl

pub loads : (mode : Mode) (size : Size) (pc address value : ℕ) (regs new : Regs) (memory : Memory) → place_of mode size regs pc ≡ places.Memory address → Reads (actions.read size address) value memory → new ≡ stepped mode size regs
    → Reads (operands.load mode size pc regs) (record { value = value; regs = new }) memory
unfolding operands.load operands.fetch
loads mode size pc address value regs new memory at reads moved = rw at (rw (reads, moved) refl)

-- ---- rows that work on registers alone

-- a row with nothing to report but its registers
pub plainly : (outcome reported : Outcome) (memory : Memory) → reported ≡ outcome → outcome ≡ plain outcome.regs → give outcome memory nothing ≡ Ok (plain reported.regs, nothing)
plainly outcome reported memory same is = ap (λ (o : Outcome). Ok (o, nothing)) (is ∙ ap (λ (o : Outcome). plain o.regs) (sym same))

pub data-plain : (operation : Task) (size : Size) (number n : ℕ) (regs : Regs) → shapes.change_data operation size number n regs ≡ plain (shapes.change_data operation size number n regs).regs
unfolding shapes.change_data
data-plain operation size number n regs = refl

pub moveq-plain : (n byte : ℕ) (regs : Regs) → registers.moveq n byte regs ≡ plain (registers.moveq n byte regs).regs
unfolding registers.moveq
moveq-plain n byte regs = data-plain _ _ _ n regs

pub exg-plain : (n r : ℕ) (regs : Regs) → registers.exg n r regs ≡ plain (registers.exg n r regs).regs
unfolding registers.exg
exg-plain n r regs = refl

pub swap-plain : (n : ℕ) (regs : Regs) → single.swap n regs ≡ plain (single.swap n regs).regs
unfolding single.swap
swap-plain n regs = data-plain _ _ _ n regs

pub ext-plain : (size : Size) (n : ℕ) (regs : Regs) → single.ext size n regs ≡ plain (single.ext size n regs).regs
unfolding single.ext
ext-plain size n regs = data-plain _ _ _ n regs

pub lea-plain : (n : ℕ) (mode : Mode) (start : ℕ) (regs : Regs) → links.lea n mode start regs ≡ plain (links.lea n mode start regs).regs
unfolding links.lea
lea-plain n mode start regs = refl

pub address-plain : (operation : Task) (number n : ℕ) (regs : Regs) → arithmetic.change_address operation number n regs ≡ plain (arithmetic.change_address operation number n regs).regs
unfolding arithmetic.change_address
address-plain operation number n regs = refl

compared-plain : (size : Size) (source target : ℕ) (regs : Regs) → comparisons.compared size source target regs ≡ plain (comparisons.compared size source target regs).regs
unfolding comparisons.compared
compared-plain size source target regs = refl

-- a comparison with an operand
pub cmp-row : (size : Size) (n : ℕ) (mode : Mode) (start source target : ℕ) (old mid : Regs) (reported : Outcome) (memory : Memory) → Reads (operands.load mode size (following start 2) old) (record { value = source; regs = mid }) memory
    → target ≡ register_of mid n % modulus_of size → reported ≡ comparisons.compared size source target mid → comparisons.cmp size n mode start old memory nothing ≡ Ok (plain reported.regs, nothing)
unfolding comparisons.cmp
cmp-row size n mode start source target old mid reported memory reads is same =
    rw reads (rw (sym is) (plainly (comparisons.compared size source target mid) reported memory same (compared-plain size source target mid)))

pub cmpa-row : (size : Size) (n : ℕ) (mode : Mode) (start source value target : ℕ) (old mid : Regs) (reported : Outcome) (memory : Memory) → Reads (operands.load mode size (following start 2) old) (record { value = source; regs = mid }) memory
    → value ≡ extended size source → target ≡ address_of mid n → reported ≡ comparisons.compared Long value target mid → comparisons.cmpa size n mode start old memory nothing ≡ Ok (plain reported.regs, nothing)
unfolding comparisons.cmpa
cmpa-row size n mode start source value target old mid reported memory reads extends is same =
    rw reads (rw (sym extends, sym is) (plainly (comparisons.compared Long value target mid) reported memory same (compared-plain Long value target mid)))

-- a sum with an address register
pub to_address-row : (operation : Task) (size : Size) (n : ℕ) (mode : Mode) (start source value : ℕ) (old mid : Regs) (reported : Outcome) (memory : Memory) → Reads (operands.load mode size (following start 2) old) (record { value = source; regs = mid }) memory
    → value ≡ extended size source → reported ≡ arithmetic.change_address operation value n mid → arithmetic.to_address operation size n mode start old memory nothing ≡ Ok (plain reported.regs, nothing)
unfolding arithmetic.to_address
to_address-row operation size n mode start source value old mid reported memory reads extends same =
    rw reads (rw (sym extends) (plainly (arithmetic.change_address operation value n mid) reported memory same (address-plain operation value n mid)))

-- an operand that is a data register is changed in place
pub data-operand : (operation : Task) (size : Size) (number n pc : ℕ) (regs : Regs) (memory : Memory) → shapes.change_operand operation size number (Data n) pc regs memory nothing ≡ Ok (shapes.change_data operation size number n regs, nothing)
unfolding shapes.change_operand shapes.change_data operands.fetch operands.put
data-operand operation size number n pc regs memory = refl

pub data-row : (operation : Task) (size : Size) (number n pc : ℕ) (regs : Regs) (reported : Outcome) (memory : Memory) → reported ≡ shapes.change_data operation size number n regs
    → shapes.change_operand operation size number (Data n) pc regs memory nothing ≡ Ok (plain reported.regs, nothing)
data-row operation size number n pc regs reported memory same =
    data-operand operation size number n pc regs memory ∙ plainly (shapes.change_data operation size number n regs) reported memory same (data-plain operation size number n regs)

pub immediate-row : (operation : Task) (size : Size) (number n start : ℕ) (regs : Regs) (reported : Outcome) (memory : Memory) → reported ≡ shapes.change_data operation size number n regs
    → immediates.immediate operation size number (Data n) start regs memory nothing ≡ Ok (plain reported.regs, nothing)
unfolding immediates.immediate
immediate-row operation size number n start regs reported memory same = data-row operation size number n (immediates.after_number size start) regs reported memory same

pub unary-row : (operation : Task) (size : Size) (n start : ℕ) (regs : Regs) (reported : Outcome) (memory : Memory) → reported ≡ shapes.change_data operation size 0 n regs
    → single.unary operation size (Data n) start regs memory nothing ≡ Ok (plain reported.regs, nothing)
unfolding single.unary
unary-row operation size n start regs reported memory same = data-row operation size 0 n (following start 2) regs reported memory same

-- ---- MOVE

pub move-asks : (size : Size) (source target : Mode) (start value : ℕ) (old mid : Regs) (memory : Memory) (request : Request68) → Reads (operands.load source size (following start 2) old) (record { value = value; regs = mid }) memory
    → operands.store target size (computed tasks.Move size value value (flags_of old)).value (after_source size source start) mid memory nothing ≡ Err (Ask request)
    → moves.move_operand size source target start old memory nothing ≡ Err (Ask request)
unfolding moves.move_operand
move-asks size source target start value old mid memory request reads asks = rw reads (rw asks refl)
