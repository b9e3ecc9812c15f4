-- Answers beyond those that an action takes change nothing: of the simple actions, and of one after
-- another. A row of instructions follows by `bind` along its lines.
use Rattle.std.proofs.Common.{◌≡◌, ℕ, ◌+◌, ◌<◌, ◌≤◌, ◌∙◌, Bool, true, false, nat_lt, List, length, Result, Ok, Err, refl, ap, sym, arith, slice_index, if◌then◌else◌, ◌%◌, ◌/◌, ◌*◌, ◌^◌}
use Rattle.std.proofs.lemmas.Bool.Decides.{nat_tests}
use Rattle.md_word.specs.Fields.{register_of}
use Rattle.md_word.specs.Width.{modulus_of}
use Rattle.md_word.specs.declared.main_bus.Request68.{Request68}
use Rattle.md_word.specs.declared.main_bus.Request68.TheVariants.{Read8, Read16, Write8, Write16}
use Rattle.md_word.specs.declared.mode.Mode.{Mode}
use Rattle.md_word.specs.declared.regs.Regs.{Regs}
use Rattle.md_word.specs.declared.size.Size.{Size}
use Rattle.md_word.specs.declared.size.Size.TheVariants.{Byte, Word, Long}
use Rattle.m68k_ea.specs.Places.{place_of}
use Rattle.m68k_ea.specs.Steps.{stepped}
use Rattle.m68k_ea.specs.declared.places.Place.{Place}
use Rattle.m68k_ea.specs.declared.places.Place.TheVariants as places
use Rattle.m68k_access.specs.declared.stop.Stop.{Stop}
use Rattle.m68k_access.specs.declared.stop.Stop.TheVariants.{Odd}
use Rattle.m68k_access.specs.Actions as actions
use Rattle.md_word.specs.Answers.{Done}
use Rattle.m68k_access.specs.Actions.{Act, ◌>>=◌, go_on}
use Rattle.m68k_access.specs.Laws.{ActionsIgnoreLaterAnswers, IgnoresLaterAnswers, SameBelow, answers_of, private_of}
use Rattle.md_word.proofs.Answered.{lower}
use Rattle.md_word.specs.Map.{is_shared}
use Rattle.m68k_access.specs.Memory.{Memory, bus_address, byte_at, ram_after, word_at}
use Rattle.m68k_access.specs.Operands as operands
use Rattle.m68k_access.proofs.Taken.{answered, never_odd, unanswered, used_of, with_byte-used, with_word-used}

-- what is private is the same
pub same-rom : (count : ℕ) (one other : Memory) → SameBelow count one other → other.rom ≡ one.rom
same-rom count one other same = ap (λ (p : List ℕ × List ℕ). p.0) same.same

pub same-ram : (count : ℕ) (one other : Memory) → SameBelow count one other → other.ram ≡ one.ram
same-ram count one other same = ap (λ (p : List ℕ × List ℕ). p.1) same.same

-- what looks at the cartridge and at work RAM, and takes no answer
pub private : {A : Type 0} (f : List ℕ → List ℕ → Done → A) (g : Done → Done) → ((done : Done) → (g done).used ≡ done.used) → IgnoresLaterAnswers (λ memory done. Ok (f memory.rom memory.ram done, g done))
unfolding used_of
private f g kept = record {
  value = λ one other before y after e same. (rw (same-rom after.used one other same, same-ram after.used one other same) e);
  odd = λ one other before address read used e same. absurd (cc);
  taken = λ memory before y after e. (let u : (g before).used ≡ after.used = ap used_of e in let k = kept before in omega arith);
  taken_odd = λ memory before address read used e. absurd (cc);
}

-- a value, with nothing done
pub give : {A : Type 0} (x : A) → IgnoresLaterAnswers (actions.give x)
give x = private (λ rom ram done. x) (λ done. done) (λ done. refl)

-- an address error
pub odd : {A : Type 0} (address : ℕ) (read : Bool) → IgnoresLaterAnswers (actions.odd {A = A} address read)
unfolding used_of
odd {A} address read = record {
  value = λ one other before y after e same. absurd (cc);
  odd = λ one other before a r used e same. e;
  taken = λ memory before y after e. absurd (cc);
  taken_odd = λ memory before a r used e. (let u : before.used ≡ used = ap (used_of {A = A}) e in omega arith);
}

-- one of two actions
pub choice : {A : Type 0} (test : Bool) (one other : Act A) → IgnoresLaterAnswers one → IgnoresLaterAnswers other → IgnoresLaterAnswers (λ memory done. if test then one memory done else other memory done)
choice true one other h k = h
choice false one other h k = k

-- an action and another after it
bind_value : {A B : Type 0} (act : Act A) (next : A → Act B) → IgnoresLaterAnswers act → ((x : A) → IgnoresLaterAnswers (next x)) → (one other : Memory) (before : Done) (y : B) (after : Done) (first : Result (A × Done) Stop) → act one before ≡ first → go_on first (λ x mid. next x one mid) ≡ Ok (y, after) → SameBelow after.used one other → go_on (act other before) (λ x mid. next x other mid) ≡ Ok (y, after)
bind_value act next h k one other before y after (Ok p) e g same =
    let more = (k p.0).taken one p.1 y after g in
    let again = h.value one other before p.0 p.1 e (lower private_of answers_of p.1.used after.used one other more same) in
    rw again ((k p.0).value one other p.1 y after g same)
bind_value act next h k one other before y after (Err stop) e g same = absurd (cc)

bind_odd : {A B : Type 0} (act : Act A) (next : A → Act B) → IgnoresLaterAnswers act → ((x : A) → IgnoresLaterAnswers (next x)) → (one other : Memory) (before : Done) (address : ℕ) (read : Bool) (used : ℕ) (first : Result (A × Done) Stop) → act one before ≡ first → go_on first (λ x mid. next x one mid) ≡ Err (Odd address read used) → SameBelow used one other → go_on (act other before) (λ x mid. next x other mid) ≡ Err (Odd address read used)
bind_odd act next h k one other before address read used (Ok p) e g same =
    let more = (k p.0).taken_odd one p.1 address read used g in
    let again = h.value one other before p.0 p.1 e (lower private_of answers_of p.1.used used one other more same) in
    rw again ((k p.0).odd one other p.1 address read used g same)
bind_odd act next h k one other before address read used (Err stop) e g same =
    let is : stop ≡ Odd address read used = cc in
    let again = h.odd one other before address read used (e ∙ ap Err is) same in
    rw again refl

bind_taken : {A B : Type 0} (act : Act A) (next : A → Act B) → IgnoresLaterAnswers act → ((x : A) → IgnoresLaterAnswers (next x)) → (one : Memory) (before : Done) (y : B) (after : Done) (first : Result (A × Done) Stop) → act one before ≡ first → go_on first (λ x mid. next x one mid) ≡ Ok (y, after) → before.used ≤ after.used
bind_taken act next h k one before y after (Ok p) e g =
    let least = h.taken one before p.0 p.1 e in
    let more = (k p.0).taken one p.1 y after g in
    omega arith
bind_taken act next h k one before y after (Err stop) e g = absurd (cc)

bind_taken_odd : {A B : Type 0} (act : Act A) (next : A → Act B) → IgnoresLaterAnswers act → ((x : A) → IgnoresLaterAnswers (next x)) → (one : Memory) (before : Done) (address : ℕ) (read : Bool) (used : ℕ) (first : Result (A × Done) Stop) → act one before ≡ first → go_on first (λ x mid. next x one mid) ≡ Err (Odd address read used) → before.used ≤ used
bind_taken_odd act next h k one before address read used (Ok p) e g =
    let least = h.taken one before p.0 p.1 e in
    let more = (k p.0).taken_odd one p.1 address read used g in
    omega arith
bind_taken_odd act next h k one before address read used (Err stop) e g =
    let is : stop ≡ Odd address read used = cc in
    h.taken_odd one before address read used (e ∙ ap Err is)

pub bind : {A B : Type 0} (act : Act A) (next : A → Act B) → IgnoresLaterAnswers act → ((x : A) → IgnoresLaterAnswers (next x)) → IgnoresLaterAnswers (act >>= next)
bind act next h k = record {
  value = λ one other before y after e same. bind_value act next h k one other before y after (act one before) refl e same;
  odd = λ one other before address read used e same. bind_odd act next h k one other before address read used (act one before) refl e same;
  taken = λ memory before y after e. bind_taken act next h k memory before y after (act memory before) refl e;
  taken_odd = λ memory before address read used e. bind_taken_odd act next h k memory before address read used (act memory before) refl e;
}

-- a shared access
asked_value : (request : Request68) (one other : Memory) (before : Done) (x : ℕ) (after : Done) (test : Bool) → nat_lt before.used (length one.answers) ≡ test → actions.asked request one before ≡ Ok (x, after) → SameBelow after.used one other → actions.asked request other before ≡ Ok (x, after)
unfolding used_of
asked_value request one other before x after true t e same =
    let first = answered request one before t in
    let u : before.used + 1 ≡ after.used = ap used_of (sym first ∙ e) in
    let enough : before.used < length other.answers = omega (arith, same.enough) in
    let more : nat_lt before.used (length other.answers) ≡ true = grind (arith, nat_tests) in
    let value : slice_index other.answers before.used ≡ slice_index one.answers before.used = same.answers before.used (omega arith) in
    let answering : ℕ → Result (ℕ × Done) Stop = λ n. Ok (n, record before { used = before.used + 1 }) in
    answered request other before more ∙ (ap answering value ∙ (sym first ∙ e))
asked_value request one other before x after false t e same = let first = unanswered request one before t in absurd (cc)

asked_taken : (request : Request68) (one : Memory) (before : Done) (x : ℕ) (after : Done) (test : Bool) → nat_lt before.used (length one.answers) ≡ test → actions.asked request one before ≡ Ok (x, after) → before.used ≤ after.used
unfolding used_of
asked_taken request one before x after true t e =
    let first = answered request one before t in
    let u : before.used + 1 ≡ after.used = ap used_of (sym first ∙ e) in omega arith
asked_taken request one before x after false t e = let first = unanswered request one before t in absurd (cc)

pub asked : (request : Request68) → IgnoresLaterAnswers (actions.asked request)
asked request = record {
  value = λ one other before x after e same. asked_value request one other before x after (nat_lt before.used (length one.answers)) refl e same;
  odd = λ one other before address read used e same. absurd (never_odd request one before address read used (nat_lt before.used (length one.answers)) refl e);
  taken = λ memory before x after e. asked_taken request memory before x after (nat_lt before.used (length memory.answers)) refl e;
  taken_odd = λ memory before address read used e. absurd (never_odd request memory before address read used (nat_lt before.used (length memory.answers)) refl e);
}

asked_byte : (at : ℕ) → IgnoresLaterAnswers (actions.asked_byte at)
unfolding actions.asked_byte
asked_byte at = bind (actions.asked (Read8 at)) (λ answer. actions.give (answer % 0x100)) (asked (Read8 at)) (λ answer. give (answer % 0x100))

reported : (request : Request68) → IgnoresLaterAnswers (actions.reported request)
unfolding actions.reported
reported request = bind (actions.asked request) (λ answer. actions.give tt) (asked request) (λ answer. give tt)

-- private reads and writes
byte_seen : (at : ℕ) → IgnoresLaterAnswers (λ memory done. Ok (actions.byte_seen at memory done, done))
unfolding actions.byte_seen
byte_seen at = private (λ rom ram done. byte_at rom (ram_after ram done.writes) at) (λ done. done) (λ done. refl)

word_seen : (at : ℕ) → IgnoresLaterAnswers (λ memory done. Ok (actions.word_seen at memory done, done))
unfolding actions.word_seen
word_seen at = private (λ rom ram done. word_at rom (ram_after ram done.writes) at) (λ done. done) (λ done. refl)

byte_put : (at value : ℕ) → IgnoresLaterAnswers {A = Unit {0}} (λ memory done. Ok (tt, actions.with_byte at value done))
byte_put at value = private (λ rom ram done. tt) (actions.with_byte at value) (with_byte-used at value)

word_put : (at value : ℕ) → IgnoresLaterAnswers {A = Unit {0}} (λ memory done. Ok (tt, actions.with_word at value done))
word_put at value = private (λ rom ram done. tt) (actions.with_word at value) (with_word-used at value)

-- reads
pub read_byte : (address : ℕ) → IgnoresLaterAnswers (actions.read_byte address)
unfolding actions.read_byte
read_byte address = choice (is_shared (bus_address address)) _ _ (asked_byte (bus_address address)) (byte_seen (bus_address address))

read_aligned : (at : ℕ) → IgnoresLaterAnswers (actions.read_aligned at)
unfolding actions.read_aligned
read_aligned at = choice (is_shared at) _ _ (asked (Read16 at)) (word_seen at)

read_word : (address : ℕ) → IgnoresLaterAnswers (actions.read_word address)
unfolding actions.read_word
read_word address = choice (actions.is_odd address) _ _ (odd address true) (read_aligned (bus_address address))

read_long : (address : ℕ) → IgnoresLaterAnswers (actions.read_long address)
unfolding actions.read_long
read_long address =
    bind (actions.read_word address) _ (read_word address) (λ high.
    bind (actions.read_word ((address + 2) % 2 ^ 32)) _ (read_word ((address + 2) % 2 ^ 32)) (λ low.
    give (high * 0x1_0000 + low)))

pub read : (size : Size) (address : ℕ) → IgnoresLaterAnswers (actions.read size address)
unfolding actions.read
read Byte address = read_byte address
read Word address = read_word address
read Long address = read_long address

-- writes
pub write_byte : (address value : ℕ) → IgnoresLaterAnswers (actions.write_byte address value)
unfolding actions.write_byte
write_byte address value = choice (is_shared (bus_address address)) _ _ (reported (Write8 (bus_address address) value)) (byte_put (bus_address address) value)

write_aligned : (at value : ℕ) → IgnoresLaterAnswers (actions.write_aligned at value)
unfolding actions.write_aligned
write_aligned at value = choice (is_shared at) _ _ (reported (Write16 at value)) (word_put at value)

pub write_word : (address value : ℕ) → IgnoresLaterAnswers (actions.write_word address value)
unfolding actions.write_word
write_word address value = choice (actions.is_odd address) _ _ (odd address false) (write_aligned (bus_address address) value)

write_long : (address value : ℕ) → IgnoresLaterAnswers (actions.write_long address value)
unfolding actions.write_long
write_long address value =
    bind (actions.write_word address (value / 0x1_0000)) _ (write_word address (value / 0x1_0000)) (λ first.
    write_word ((address + 2) % 2 ^ 32) (value % 0x1_0000))

pub write : (size : Size) (address value : ℕ) → IgnoresLaterAnswers (actions.write size address value)
unfolding actions.write
write Byte address value = write_byte address value
write Word address value = write_word address value
write Long address value = write_long address value

-- operands
pub fetch : (size : Size) (place : Place) (regs : Regs) → IgnoresLaterAnswers (operands.fetch size place regs)
unfolding operands.fetch
fetch size (places.Register n) regs = give (register_of regs n % modulus_of size)
fetch size (places.Memory at) regs = read size at
fetch size (places.Immediate value) regs = give value
fetch size (places.Odd at) regs = odd at true

stored : (size : Size) (at value : ℕ) (regs : Regs) → IgnoresLaterAnswers (operands.stored size at value regs)
unfolding operands.stored
stored size at value regs = bind (actions.write size at value) _ (write size at value) (λ written. give regs)

pub put : (size : Size) (place : Place) (value : ℕ) (regs : Regs) → IgnoresLaterAnswers (operands.put size place value regs)
unfolding operands.put
put size (places.Register n) value regs = give (operands.with_part size n value regs)
put size (places.Memory at) value regs = stored size at value regs
put size (places.Immediate number) value regs = give regs
put size (places.Odd at) value regs = odd at false

pub load : (mode : Mode) (size : Size) (pc : ℕ) (regs : Regs) → IgnoresLaterAnswers (operands.load mode size pc regs)
unfolding operands.load
load mode size pc regs =
    bind (operands.fetch size (place_of mode size regs pc) regs) _ (fetch size (place_of mode size regs pc) regs) (λ value. give _)

pub store : (mode : Mode) (size : Size) (value pc : ℕ) (regs : Regs) → IgnoresLaterAnswers (operands.store mode size value pc regs)
unfolding operands.store
store mode size value pc regs = put size (place_of mode size regs pc) value (stepped mode size regs)

pub push : (size : Size) (value : ℕ) (regs : Regs) → IgnoresLaterAnswers (operands.push size value regs)
unfolding operands.push
push size value regs = bind (actions.write size _ value) _ (write size _ value) (λ written. give _)

pub pull : (size : Size) (regs : Regs) → IgnoresLaterAnswers (operands.pull size regs)
unfolding operands.pull
pull size regs = bind (actions.read size (operands.stack_of regs)) _ (read size (operands.stack_of regs)) (λ value. give _)

pub all : ActionsIgnoreLaterAnswers
all = record {
  asked = asked;
  read = read;
  write = write;
  fetch = fetch;
  put = put;
  load = load;
  store = store;
  push = push;
  pull = pull;
}
