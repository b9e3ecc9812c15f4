-- How many answers an action takes at most, and where it waits for one: laws on the definitions.
use Rattle.std.proofs.Common.{◌≡◌, ℕ, ◌+◌, ◌*◌, ◌<◌, ◌≤◌, ◌∙◌, Bool, true, false, nat_lt, length, Result, Ok, Err, refl, ap, sym, arith, if◌then◌else◌, ◌%◌, ◌/◌, ◌^◌}
use Rattle.std.proofs.lemmas.Bool.Decides.{nat_tests}
use Rattle.md_word.specs.declared.main_bus.Request68.{Request68}
use Rattle.md_word.specs.declared.main_bus.Request68.TheVariants.{Read8, Read16, Write8, Write16}
use Rattle.md_word.specs.declared.mode.Mode.{Mode}
use Rattle.md_word.specs.declared.regs.Regs.{Regs}
use Rattle.md_word.specs.declared.size.Size.{Size}
use Rattle.md_word.specs.declared.size.Size.TheVariants.{Byte, Word, Long}
use Rattle.md_word.specs.declared.task.Task.{Task}
use Rattle.md_word.specs.Fields.{register_of}
use Rattle.md_word.specs.Width.{modulus_of}
use Rattle.m68k_decode.specs.Ops.{moves_of}
use Rattle.m68k_ea.specs.Places.{place_of}
use Rattle.m68k_ea.specs.declared.places.Place.{Place}
use Rattle.m68k_ea.specs.declared.places.Place.TheVariants as places
use Rattle.m68k_access.specs.declared.stop.Stop.{Stop}
use Rattle.m68k_access.specs.declared.stop.Stop.TheVariants.{Ask, Odd}
use Rattle.m68k_access.specs.Actions as actions
use Rattle.md_word.specs.Answers.{Done}
use Rattle.m68k_access.specs.Actions.{Act, ◌>>=◌, go_on}
use Rattle.md_word.specs.Map.{is_shared}
use Rattle.m68k_access.specs.Memory.{Memory, bus_address}
use Rattle.m68k_access.specs.Operands as operands
use Rattle.m68k_access.specs.Operands.{touches}
use Rattle.m68k_access.specs.Shapes as shapes
use Rattle.m68k_decode.specs.Ops.{touches_of}
use Rattle.m68k_ea.specs.Steps.{stepped}
use Rattle.m68k_access.proofs.Taken.{answered, never_odd, unanswered, used_of, with_byte-used, with_word-used}
use Rattle.m68k_access.proofs.Touches.{touched}
use Rattle.m68k_exec.specs.Rows.Moves as moves
use Rattle.m68k_exec.specs.Rows.Multiprecision as multiprecision
use Rattle.m68k_exec.specs.Rows.Quotients as quotients

-- it takes at most so many answers, none that is not there, and waits only for one of them; an
-- address error comes within as many
pub record Takes {A : Type 0} (most : ℕ) (act : Act A) : Type 0 where
  pub value : (memory : Memory) (before : Done) (x : A) (after : Done) → act memory before ≡ Ok (x, after) → before.used ≤ length memory.answers → (after.used ≤ before.used + most) × (after.used ≤ length memory.answers)
  pub asks : (memory : Memory) (before : Done) (request : Request68) → act memory before ≡ Err (Ask request) → before.used ≤ length memory.answers → length memory.answers < before.used + most
  pub odd : (memory : Memory) (before : Done) (address : ℕ) (read : Bool) (used : ℕ) → act memory before ≡ Err (Odd address read used) → before.used ≤ length memory.answers → (used ≤ before.used + most) × (used ≤ length memory.answers)

pub more : {A : Type 0} (fewer most : ℕ) (act : Act A) → fewer ≤ most → Takes fewer act → Takes most act
more fewer most act few h = record {
  value = λ memory before x after e in_range. (let r = h.value memory before x after e in_range in (omega (arith, r.0, few), r.1));
  asks = λ memory before request e in_range. (let r = h.asks memory before request e in_range in omega (arith, r, few));
  odd = λ memory before address read used e in_range. (let r = h.odd memory before address read used e in_range in (omega (arith, r.0, few), r.1));
}

pub give : {A : Type 0} (x : A) → Takes 0 (actions.give x)
unfolding used_of
give {A} x = record {
  value = λ memory before y after e in_range. (let u : before.used ≡ after.used = ap (used_of {A = A}) e in (omega (arith, u), omega (arith, u, in_range)));
  asks = λ memory before request e in_range. absurd (cc);
  odd = λ memory before address read used e in_range. absurd (cc);
}

pub odd : {A : Type 0} (address : ℕ) (read : Bool) → Takes 0 (actions.odd {A = A} address read)
unfolding used_of
odd {A} address read = record {
  value = λ memory before y after e in_range. absurd (cc);
  asks = λ memory before request e in_range. absurd (cc);
  odd = λ memory before at reads used e in_range. (let u : before.used ≡ used = ap (used_of {A = A}) e in (omega (arith, u), omega (arith, u, in_range)));
}

pub choice : {A : Type 0} (most : ℕ) (test : Bool) (one other : Act A) → Takes most one → Takes most other → Takes most (λ memory done. if test then one memory done else other memory done)
choice most true one other h k = h
choice most false one other h k = k

bind_value : {A B : Type 0} (m n : ℕ) (act : Act A) (next : A → Act B) → Takes m act → ((x : A) → Takes n (next x)) → (memory : Memory) (before : Done) (y : B) (after : Done) (first : Result (A × Done) Stop) → act memory before ≡ first → go_on first (λ x mid. next x memory mid) ≡ Ok (y, after) → before.used ≤ length memory.answers → (after.used ≤ before.used + (m + n)) × (after.used ≤ length memory.answers)
bind_value m n act next h k memory before y after (Ok p) e g in_range =
    let one = h.value memory before p.0 p.1 e in_range in
    let two = (k p.0).value memory p.1 y after g one.1 in
    (omega (arith, one.0, two.0), two.1)
bind_value m n act next h k memory before y after (Err stop) e g in_range = absurd (cc)

bind_asks : {A B : Type 0} (m n : ℕ) (act : Act A) (next : A → Act B) → Takes m act → ((x : A) → Takes n (next x)) → (memory : Memory) (before : Done) (request : Request68) (first : Result (A × Done) Stop) → act memory before ≡ first → go_on first (λ x mid. next x memory mid) ≡ Err (Ask request) → before.used ≤ length memory.answers → length memory.answers < before.used + (m + n)
bind_asks m n act next h k memory before request (Ok p) e g in_range =
    let one = h.value memory before p.0 p.1 e in_range in
    let two = (k p.0).asks memory p.1 request g one.1 in
    omega (arith, one.0, two)
bind_asks m n act next h k memory before request (Err stop) e g in_range =
    let is : stop ≡ Ask request = cc in
    let r = h.asks memory before request (e ∙ ap Err is) in_range in
    omega (arith, r)

bind_odd : {A B : Type 0} (m n : ℕ) (act : Act A) (next : A → Act B) → Takes m act → ((x : A) → Takes n (next x)) → (memory : Memory) (before : Done) (address : ℕ) (read : Bool) (used : ℕ) (first : Result (A × Done) Stop) → act memory before ≡ first → go_on first (λ x mid. next x memory mid) ≡ Err (Odd address read used) → before.used ≤ length memory.answers → (used ≤ before.used + (m + n)) × (used ≤ length memory.answers)
bind_odd m n act next h k memory before address read used (Ok p) e g in_range =
    let one = h.value memory before p.0 p.1 e in_range in
    let two = (k p.0).odd memory p.1 address read used g one.1 in
    (omega (arith, one.0, two.0), two.1)
bind_odd m n act next h k memory before address read used (Err stop) e g in_range =
    let is : stop ≡ Odd address read used = cc in
    let r = h.odd memory before address read used (e ∙ ap Err is) in_range in
    (omega (arith, r.0), r.1)

pub bind : {A B : Type 0} (m n : ℕ) (act : Act A) (next : A → Act B) → Takes m act → ((x : A) → Takes n (next x)) → Takes (m + n) (act >>= next)
bind m n act next h k = record {
  value = λ memory before y after e in_range. bind_value m n act next h k memory before y after (act memory before) refl e in_range;
  asks = λ memory before request e in_range. bind_asks m n act next h k memory before request (act memory before) refl e in_range;
  odd = λ memory before address read used e in_range. bind_odd m n act next h k memory before address read used (act memory before) refl e in_range;
}

asked_value : (request : Request68) (memory : Memory) (before : Done) (x : ℕ) (after : Done) (test : Bool) → nat_lt before.used (length memory.answers) ≡ test → actions.asked request memory before ≡ Ok (x, after) → (after.used ≤ before.used + 1) × (after.used ≤ length memory.answers)
unfolding used_of
asked_value request memory before x after true t e =
    let first = answered request memory before t in
    let u : before.used + 1 ≡ after.used = ap used_of (sym first ∙ e) in
    let below : before.used < length memory.answers = grind (arith, nat_tests) in
    (omega (arith, u), omega (arith, u, below))
asked_value request memory before x after false t e = let first = unanswered request memory before t in absurd (cc)

asked_asks : (request : Request68) (memory : Memory) (before : Done) (r : Request68) (test : Bool) → nat_lt before.used (length memory.answers) ≡ test → actions.asked request memory before ≡ Err (Ask r) → length memory.answers < before.used + 1
asked_asks request memory before r true t e = let first = answered request memory before t in absurd (cc)
asked_asks request memory before r false t e = grind (arith, nat_tests)

pub asked : (request : Request68) → Takes 1 (actions.asked request)
asked request = record {
  value = λ memory before x after e in_range. asked_value request memory before x after (nat_lt before.used (length memory.answers)) refl e;
  asks = λ memory before r e in_range. asked_asks request memory before r (nat_lt before.used (length memory.answers)) refl e;
  odd = λ memory before address read used e in_range. absurd (never_odd request memory before address read used (nat_lt before.used (length memory.answers)) refl e);
}

asked_byte : (at : ℕ) → Takes 1 (actions.asked_byte at)
unfolding actions.asked_byte
asked_byte at = bind 1 0 (actions.asked (Read8 at)) (λ answer. actions.give (answer % 0x100)) (asked (Read8 at)) (λ answer. give (answer % 0x100))

private : {A : Type 0} (f : Memory → Done → A) (g : Done → Done) → ((done : Done) → (g done).used ≡ done.used) → Takes 0 (λ memory done. Ok (f memory done, g done))
unfolding used_of
private {A} f g kept = record {
  value = λ memory before y after e in_range. (let u : (g before).used ≡ after.used = ap (used_of {A = A}) e in let k = kept before in (omega (arith, u, k), omega (arith, u, k, in_range)));
  asks = λ memory before request e in_range. absurd (cc);
  odd = λ memory before address read used e in_range. absurd (cc);
}

byte_seen : (at : ℕ) → Takes 1 (λ memory done. Ok (actions.byte_seen at memory done, done))
byte_seen at = more 0 1 _ (omega arith) (private (actions.byte_seen at) (λ done. done) (λ done. refl))

word_seen : (at : ℕ) → Takes 1 (λ memory done. Ok (actions.word_seen at memory done, done))
word_seen at = more 0 1 _ (omega arith) (private (actions.word_seen at) (λ done. done) (λ done. refl))

pub read_byte : (address : ℕ) → Takes 1 (actions.read_byte address)
unfolding actions.read_byte
read_byte address = choice 1 (is_shared (bus_address address)) _ _ (asked_byte (bus_address address)) (byte_seen (bus_address address))

read_aligned : (at : ℕ) → Takes 1 (actions.read_aligned at)
unfolding actions.read_aligned
read_aligned at = choice 1 (is_shared at) _ _ (asked (Read16 at)) (word_seen at)

read_word : (address : ℕ) → Takes 1 (actions.read_word address)
unfolding actions.read_word
read_word address = choice 1 (actions.is_odd address) _ _ (more 0 1 _ (omega arith) (odd address true)) (read_aligned (bus_address address))

read_long : (address : ℕ) → Takes 2 (actions.read_long address)
unfolding actions.read_long
read_long address =
    bind 1 1 (actions.read_word address) _ (read_word address) (λ high.
    bind 1 0 (actions.read_word ((address + 2) % 2 ^ 32)) _ (read_word ((address + 2) % 2 ^ 32)) (λ low.
    give (high * 0x1_0000 + low)))

pub read : (size : Size) (address : ℕ) → Takes (moves_of size) (actions.read size address)
unfolding actions.read
read Byte address = read_byte address
read Word address = read_word address
read Long address = read_long address

pub fetch : (size : Size) (place : Place) (regs : Regs) → Takes (touches size place) (operands.fetch size place regs)
unfolding operands.fetch
fetch size (places.Register n) regs = give (register_of regs n % modulus_of size)
fetch size (places.Memory at) regs = read size at
fetch size (places.Immediate value) regs = give value
fetch size (places.Odd at) regs = more 0 (moves_of size) _ (omega arith) (odd at true)

pub load : (mode : Mode) (size : Size) (pc : ℕ) (regs : Regs) → Takes (touches_of size mode) (operands.load mode size pc regs)
unfolding operands.load
load mode size pc regs =
    more _ _ _ (let t = touched mode size regs pc in omega (arith, t)) (bind _ 0 (operands.fetch size (place_of mode size regs pc) regs) _ (fetch size (place_of mode size regs pc) regs) (λ value. give _))

byte_put : (at value : ℕ) → Takes {A = Unit {0}} 1 (λ memory done. Ok (tt, actions.with_byte at value done))
byte_put at value = more 0 1 _ (omega arith) (private (λ memory done. tt) (actions.with_byte at value) (with_byte-used at value))

word_put : (at value : ℕ) → Takes {A = Unit {0}} 1 (λ memory done. Ok (tt, actions.with_word at value done))
word_put at value = more 0 1 _ (omega arith) (private (λ memory done. tt) (actions.with_word at value) (with_word-used at value))

reported : (request : Request68) → Takes 1 (actions.reported request)
unfolding actions.reported
reported request = bind 1 0 (actions.asked request) (λ answer. actions.give tt) (asked request) (λ answer. give tt)

pub write_byte : (address value : ℕ) → Takes 1 (actions.write_byte address value)
unfolding actions.write_byte
write_byte address value = choice 1 (is_shared (bus_address address)) _ _ (reported (Write8 (bus_address address) value)) (byte_put (bus_address address) value)

write_aligned : (at value : ℕ) → Takes 1 (actions.write_aligned at value)
unfolding actions.write_aligned
write_aligned at value = choice 1 (is_shared at) _ _ (reported (Write16 at value)) (word_put at value)

pub write_word : (address value : ℕ) → Takes 1 (actions.write_word address value)
unfolding actions.write_word
write_word address value = choice 1 (actions.is_odd address) _ _ (more 0 1 _ (omega arith) (odd address false)) (write_aligned (bus_address address) value)

write_long : (address value : ℕ) → Takes 2 (actions.write_long address value)
unfolding actions.write_long
write_long address value =
    bind 1 1 (actions.write_word address (value / 0x1_0000)) _ (write_word address (value / 0x1_0000)) (λ first.
    write_word ((address + 2) % 2 ^ 32) (value % 0x1_0000))

pub write : (size : Size) (address value : ℕ) → Takes (moves_of size) (actions.write size address value)
unfolding actions.write
write Byte address value = write_byte address value
write Word address value = write_word address value
write Long address value = write_long address value

stored : (size : Size) (at value : ℕ) (regs : Regs) → Takes (moves_of size) (operands.stored size at value regs)
unfolding operands.stored
stored size at value regs = more _ _ _ (omega arith) (bind (moves_of size) 0 (actions.write size at value) _ (write size at value) (λ written. give regs))

pub put : (size : Size) (place : Place) (value : ℕ) (regs : Regs) → Takes (touches size place) (operands.put size place value regs)
unfolding operands.put
put size (places.Register n) value regs = give (operands.with_part size n value regs)
put size (places.Memory at) value regs = stored size at value regs
put size (places.Immediate number) value regs = give regs
put size (places.Odd at) value regs = more 0 (moves_of size) _ (omega arith) (odd at false)

pub store : (mode : Mode) (size : Size) (value pc : ℕ) (regs : Regs) → Takes (touches_of size mode) (operands.store mode size value pc regs)
unfolding operands.store
store mode size value pc regs = more _ _ _ (let t = touched mode size regs pc in omega (arith, t)) (put size (place_of mode size regs pc) value (stepped mode size regs))

pub push : (size : Size) (value : ℕ) (regs : Regs) → Takes (moves_of size) (operands.push size value regs)
unfolding operands.push
push size value regs = more _ _ _ (omega arith) (bind (moves_of size) 0 (actions.write size _ value) _ (write size _ value) (λ written. give _))

pub pull : (size : Size) (regs : Regs) → Takes (moves_of size) (operands.pull size regs)
unfolding operands.pull
pull size regs = more _ _ _ (omega arith) (bind (moves_of size) 0 (actions.read size (operands.stack_of regs)) _ (read size (operands.stack_of regs)) (λ value. give _))

-- shapes and rows
pub change_operand : (operation : Task) (size : Size) (number : ℕ) (mode : Mode) (pc : ℕ) (regs : Regs) → Takes (2 * touches_of size mode) (shapes.change_operand operation size number mode pc regs)
unfolding shapes.change_operand
change_operand operation size number mode pc regs =
    let t = touched mode size regs pc in
    more _ _ _ (omega (arith, t)) (bind _ _ _ _ (fetch size _ _) (λ old. bind _ 0 _ _ (put size (place_of mode size regs pc) _ _) (λ after. give _)))

pub change_register : (operation : Task) (size : Size) (n : ℕ) (mode : Mode) (pc : ℕ) (regs : Regs) → Takes (touches_of size mode) (shapes.change_register operation size n mode pc regs)
unfolding shapes.change_register
change_register operation size n mode pc regs = more _ _ _ (omega arith) (bind _ 0 _ _ (load mode size pc regs) (λ operand. give _))

pub move_operand : (size : Size) (source target : Mode) (start : ℕ) (regs : Regs) → Takes (touches_of size source + touches_of size target) (moves.move_operand size source target start regs)
unfolding moves.move_operand
move_operand size source target start regs =
    more _ _ _ (omega arith) (bind _ _ _ _ (load source size _ regs) (λ from. bind _ 0 _ _ (store target size _ _ _) (λ after. give _)))

pub extended : (operation : Task) (size : Size) (source target : Mode) (start : ℕ) (regs : Regs) → Takes (touches_of size source + 2 * touches_of size target) (multiprecision.extended operation size source target start regs)
unfolding multiprecision.extended
extended operation size source target start regs =
    bind _ _ _ _ (load source size _ regs) (λ part. change_operand operation size part.value target _ part.regs)

pub quotient_by : (signed : Bool) (n : ℕ) (mode : Mode) (start : ℕ) (regs : Regs) → Takes (touches_of Word mode) (quotients.quotient_by signed n mode start regs)
unfolding quotients.quotient_by
quotient_by signed n mode start regs = more _ _ _ (omega arith) (bind _ 0 _ _ (load mode Word _ regs) (λ source. give _))

pub test_operand : (operation : Task) (size : Size) (number : ℕ) (mode : Mode) (pc : ℕ) (regs : Regs) → Takes (touches_of size mode) (shapes.test_operand operation size number mode pc regs)
unfolding shapes.test_operand
test_operand operation size number mode pc regs = more _ _ _ (omega arith) (bind _ 0 _ _ (load mode size pc regs) (λ operand. give _))

-- an action, and a value by it
pub last : {A B : Type 0} (m : ℕ) (act : Act A) (next : A → Act B) → Takes m act → ((x : A) → Takes 0 (next x)) → Takes m (act >>= next)
last m act next h k = more (m + 0) m _ (omega arith) (bind m 0 act next h k)

-- what looks at the cartridge and at work RAM first
pub look : {V A : Type 0} (most : ℕ) (v : Memory → V) (f : V → Act A) → ((memory : Memory) → Takes most (f (v memory))) → Takes most (λ memory done. f (v memory) memory done)
look most v f h = record {
  value = λ memory before x after e in_range. (h memory).value memory before x after e in_range;
  asks = λ memory before request e in_range. (h memory).asks memory before request e in_range;
  odd = λ memory before address read used e in_range. (h memory).odd memory before address read used e in_range;
}
