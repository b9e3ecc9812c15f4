-- What an action asks for, and that its value keeps what its parts keep: laws on the definitions.
use Rattle.std.proofs.Common.{◌≡◌, ℕ, ◌%◌, Bool, true, false, nat_lt, length, Result, Ok, Err, refl, arith}
use Rattle.std.specs.Prelude.{if◌then◌else◌}
use Rattle.md_word.specs.declared.main_bus.Request68.{Request68}
use Rattle.md_word.specs.declared.main_bus.Request68.TheVariants.{Read16, Read8, Write16, Write8}
use Rattle.md_word.specs.declared.mode.Mode.{Mode}
use Rattle.md_word.specs.declared.regs.Regs.{Regs}
use Rattle.md_word.specs.declared.size.Size.{Size}
use Rattle.md_word.specs.declared.size.Size.TheVariants.{Byte, Long, Word}
use Rattle.md_word.specs.declared.task.Task.{Task}
use Rattle.m68k_ea.specs.Places.{place_of}
use Rattle.m68k_ea.specs.Steps.{stepped}
use Rattle.m68k_ea.specs.declared.places.Place.{Place}
use Rattle.m68k_ea.specs.declared.places.Place.TheVariants as places
use Rattle.m68k_exec.proofs.Bounds.SystemByte as sr
use Rattle.md_word.proofs.Answered as answered
use Rattle.md_word.proofs.Answered.{give}
use Rattle.m68k_exec.specs.Sample.Bounds.{IsAccess, IsShared, IsStatus}
use Rattle.m68k_access.specs.Actions as actions
use Rattle.md_word.specs.Answers.{Done}
use Rattle.m68k_access.specs.Actions.{Act, ◌>>=◌, go_on}
use Rattle.md_word.specs.Map.{is_shared}
use Rattle.m68k_access.specs.Memory.{Memory, bus_address}
use Rattle.m68k_access.specs.Operands as operands
use Rattle.m68k_access.specs.Operands.{Operand}
use Rattle.m68k_access.specs.Outcomes.{Outcome}
use Rattle.m68k_access.specs.Shapes as shapes
use Rattle.m68k_access.specs.declared.stop.Stop.{Stop}
use Rattle.m68k_access.specs.declared.stop.Stop.TheVariants.{Ask, Odd}

-- it waits for an access that it may ask for
abbrev pub MayStop : Stop → Type 0
MayStop (Ask request) = IsAccess request
MayStop (Odd address read used) = Unit {0}

-- its value keeps this, or it waits for such an access
abbrev pub Fine : {A : Type 0} → (A → Type 0) → Result (A × Done) Stop → Type 0
Fine ok result = answered.Fine MayStop ok result

abbrev pub Keeps : {A : Type 0} → (A → Type 0) → Act A → Type 0
Keeps ok act = answered.Keeps MayStop ok act

pub odd : {A : Type 0} (ok : A → Type 0) (address : ℕ) (read : Bool) → Keeps ok (actions.odd {A = A} address read)
odd ok address read = record { at = λ memory before. tt }

bind_at : {A B : Type 0} (ok : A → Type 0) (good : B → Type 0) (next : A → Act B) → ((x : A) → ok x → Keeps good (next x)) → (memory : Memory) (first : Result (A × Done) Stop) → Fine ok first → Fine good (go_on first (λ x mid. next x memory mid))
bind_at ok good next k memory (Ok x) h = (k x.0 h).at memory x.1
bind_at ok good next k memory (Err (Ask request)) h = h
bind_at ok good next k memory (Err (Odd address read used)) h = tt

pub bind : {A B : Type 0} (ok : A → Type 0) (good : B → Type 0) (act : Act A) (next : A → Act B) → Keeps ok act → ((x : A) → ok x → Keeps good (next x)) → Keeps good (act >>= next)
bind ok good act next h k = record { at = λ memory before. bind_at ok good next k memory (act memory before) (h.at memory before) }

pub choice : {A : Type 0} (ok : A → Type 0) (test : Bool) (one other : Act A) → (test ≡ true → Keeps ok one) → (test ≡ false → Keeps ok other) → Keeps ok (λ memory done. if test then one memory done else other memory done)
choice ok true one other h k = h refl
choice ok false one other h k = k refl

-- the accesses
abbrev pub Any : {A : Type 0} → A → Type 0
Any x = Unit {0}

asked_cases : (request : Request68) (test : Bool) (memory : Memory) (before : Done) (x : ℕ × Done) → IsAccess request → Fine Any (if test then Ok x else Err (Ask request))
asked_cases request true memory before x h = tt
asked_cases request false memory before x h = h

asked : (request : Request68) → IsAccess request → Keeps Any (actions.asked request)
unfolding actions.asked
asked request h = record { at = λ memory before. asked_cases request (nat_lt before.used (length memory.answers)) memory before _ h }

private : {A : Type 0} (f : Memory → Done → A) (g : Done → Done) → Keeps (λ (x : A). Unit {0}) (λ memory done. Ok (f memory done, g done))
private f g = record { at = λ memory before. tt }

shared_at : (address : ℕ) → is_shared (bus_address address) ≡ true → IsShared (bus_address address)
shared_at address e = record { shared = e; below = omega arith }

even_at : (address : ℕ) → actions.is_odd address ≡ false → bus_address address % 2 ≡ 0
even_at address e = grind arith

asked_byte : (at : ℕ) → IsShared at → Keeps Any (actions.asked_byte at)
unfolding actions.asked_byte
asked_byte at h = bind _ _ _ _ (asked (Read8 at) h) (λ answer a. give _ _ _ tt)

reported : (request : Request68) → IsAccess request → Keeps Any (actions.reported request)
unfolding actions.reported
reported request h = bind _ _ _ _ (asked request h) (λ answer a. give _ _ tt tt)

pub read_byte : (address : ℕ) → Keeps Any (actions.read_byte address)
unfolding actions.read_byte
read_byte address = choice _ (is_shared (bus_address address)) _ _ (λ e. asked_byte _ (shared_at address e)) (λ e. private _ _)

read_aligned : (address : ℕ) → bus_address address % 2 ≡ 0 → Keeps Any (actions.read_aligned (bus_address address))
unfolding actions.read_aligned
read_aligned address even = choice _ (is_shared (bus_address address)) _ _ (λ e. asked (Read16 (bus_address address)) (shared_at address e, even)) (λ e. private _ _)

read_word : (address : ℕ) → Keeps Any (actions.read_word address)
unfolding actions.read_word
read_word address = choice _ (actions.is_odd address) _ _ (λ e. odd _ _ _) (λ e. read_aligned address (even_at address e))

read_long : (address : ℕ) → Keeps Any (actions.read_long address)
unfolding actions.read_long
read_long address = bind _ _ _ _ (read_word address) (λ high a. bind _ _ _ _ (read_word _) (λ low b. give _ _ _ tt))

pub read : (size : Size) (address : ℕ) → Keeps Any (actions.read size address)
unfolding actions.read
read Byte address = read_byte address
read Word address = read_word address
read Long address = read_long address

pub write_byte : (address value : ℕ) → Keeps Any (actions.write_byte address value)
unfolding actions.write_byte
write_byte address value = choice _ (is_shared (bus_address address)) _ _ (λ e. reported (Write8 (bus_address address) value) (shared_at address e)) (λ e. private _ _)

write_aligned : (address value : ℕ) → bus_address address % 2 ≡ 0 → Keeps Any (actions.write_aligned (bus_address address) value)
unfolding actions.write_aligned
write_aligned address value even = choice _ (is_shared (bus_address address)) _ _ (λ e. reported (Write16 (bus_address address) value) (shared_at address e, even)) (λ e. private _ _)

pub write_word : (address value : ℕ) → Keeps Any (actions.write_word address value)
unfolding actions.write_word
write_word address value = choice _ (actions.is_odd address) _ _ (λ e. odd _ _ _) (λ e. write_aligned address value (even_at address e))

write_long : (address value : ℕ) → Keeps Any (actions.write_long address value)
unfolding actions.write_long
write_long address value = bind _ _ _ _ (write_word address _) (λ first a. write_word _ _)

pub write : (size : Size) (address value : ℕ) → Keeps Any (actions.write size address value)
unfolding actions.write
write Byte address value = write_byte address value
write Word address value = write_word address value
write Long address value = write_long address value

-- registers, an operand and an outcome whose status register has no other bits
abbrev pub HasStatus : Regs → Type 0
HasStatus regs = IsStatus regs.sr

abbrev pub StatusOf : Operand → Type 0
StatusOf operand = IsStatus operand.regs.sr

abbrev pub StatusAfter : Outcome → Type 0
StatusAfter outcome = IsStatus outcome.regs.sr

-- the operands
pub fetch : (size : Size) (place : Place) (regs : Regs) → Keeps Any (operands.fetch size place regs)
unfolding operands.fetch
fetch size (places.Register n) regs = give _ _ _ tt
fetch size (places.Memory at) regs = read size at
fetch size (places.Immediate value) regs = give _ _ _ tt
fetch size (places.Odd at) regs = odd _ _ _

pub load : (mode : Mode) (size : Size) (pc : ℕ) (regs : Regs) → HasStatus regs → Keeps StatusOf (operands.load mode size pc regs)
unfolding operands.load
load mode size pc regs h = bind _ _ _ _ (fetch size (place_of mode size regs pc) regs) (λ value a. give _ _ _ (sr.steps mode size regs h))

stored : (size : Size) (at value : ℕ) (regs : Regs) → HasStatus regs → Keeps HasStatus (operands.stored size at value regs)
unfolding operands.stored
stored size at value regs h = bind _ _ _ _ (write size at value) (λ written a. give _ _ _ h)

pub put : (size : Size) (place : Place) (value : ℕ) (regs : Regs) → HasStatus regs → Keeps HasStatus (operands.put size place value regs)
unfolding operands.put
put size (places.Register n) value regs h = give _ _ _ (sr.register regs n _ h)
put size (places.Memory at) value regs h = stored size at value regs h
put size (places.Immediate number) value regs h = give _ _ _ h
put size (places.Odd at) value regs h = odd _ _ _

pub store : (mode : Mode) (size : Size) (value pc : ℕ) (regs : Regs) → HasStatus regs → Keeps HasStatus (operands.store mode size value pc regs)
unfolding operands.store
store mode size value pc regs h = put size (place_of mode size regs pc) value (stepped mode size regs) (sr.steps mode size regs h)

pub push : (size : Size) (value : ℕ) (regs : Regs) → HasStatus regs → Keeps HasStatus (operands.push size value regs)
unfolding operands.push
push size value regs h = bind _ _ _ _ (write size _ value) (λ written a. give _ _ _ (sr.address regs 7 _ h))

pub pull : (size : Size) (regs : Regs) → HasStatus regs → Keeps StatusOf (operands.pull size regs)
unfolding operands.pull
pull size regs h = bind _ _ _ _ (read size (operands.stack_of regs)) (λ value a. give _ _ _ (sr.address regs 7 _ h))

-- the shapes
pub test_operand : (operation : Task) (size : Size) (number : ℕ) (mode : Mode) (pc : ℕ) (regs : Regs) → HasStatus regs → Keeps StatusAfter (shapes.test_operand operation size number mode pc regs)
unfolding shapes.test_operand
test_operand operation size number mode pc regs h = bind _ _ _ _ (load mode size pc regs h) (λ operand a. give _ _ _ (sr.flags operand.regs _ a))

pub change_operand : (operation : Task) (size : Size) (number : ℕ) (mode : Mode) (pc : ℕ) (regs : Regs) → HasStatus regs → Keeps StatusAfter (shapes.change_operand operation size number mode pc regs)
unfolding shapes.change_operand
change_operand operation size number mode pc regs h =
    bind _ _ _ _ (fetch size _ _) (λ old a. bind _ _ _ _ (put size (place_of mode size regs pc) _ _ (sr.steps mode size regs h)) (λ after b. give _ _ _ (sr.flags after _ b)))

pub change_data : (operation : Task) (size : Size) (number n : ℕ) (regs : Regs) → HasStatus regs → StatusAfter (shapes.change_data operation size number n regs)
unfolding shapes.change_data
change_data operation size number n regs h = sr.flags (operands.with_part size n _ regs) _ (sr.register regs n _ h)

pub change_register : (operation : Task) (size : Size) (n : ℕ) (mode : Mode) (pc : ℕ) (regs : Regs) → HasStatus regs → Keeps StatusAfter (shapes.change_register operation size n mode pc regs)
unfolding shapes.change_register
change_register operation size n mode pc regs h =
    bind _ _ _ _ (load mode size pc regs h) (λ operand a. give _ _ _ (sr.flags (operands.with_part size n _ operand.regs) _ (sr.register operand.regs n _ a)))
