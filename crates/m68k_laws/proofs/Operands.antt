-- The operands of an instruction, the stack, and the shapes that most instructions have follow their
-- accesses.
use Rattle.std.proofs.Common.{◌≡◌, ℕ, ◌+◌, ◌%◌, ◌^◌, Bool, true, false, List, [], ◌++◌, refl}
use Rattle.md_word.specs.Fields.{with_address}
use Rattle.md_word.specs.declared.mode.Mode.{Mode}
use Rattle.md_word.specs.declared.mode.Mode.TheVariants.{Address, Data, Immediate}
use Rattle.md_word.specs.declared.regs.Regs.{Regs}
use Rattle.md_word.specs.declared.size.Size.{Size}
use Rattle.md_word.specs.declared.size.Size.TheVariants.{Byte, Word, Long}
use Rattle.md_word.specs.declared.task.Task.{Task}
use Rattle.m68k_ea.specs.Addresses.{effective_address}
use Rattle.m68k_ea.specs.Places.{is_misaligned, place_of, standing}
use Rattle.m68k_ea.specs.Steps.{stepped}
use Rattle.m68k_access.specs.Actions.{Act, ◌>>=◌}
use Rattle.m68k_access.specs.Actions as actions
use Rattle.m68k_access.specs.Operands as operands
use Rattle.m68k_access.specs.Operands.{Operand, bytes_of, stack_of}
use Rattle.m68k_access.specs.Shapes as shapes
use Rattle.m68k_laws.proofs.Follows.{Follows, bind, give, last, through}
use Rattle.m68k_laws.proofs.Single.{odd_first, read, write}
use Rattle.m68k_laws.specs.Accesses.{Access, Kind, Read, Write, is_read, one, words}
use Rattle.m68k_laws.specs.Footprints.{below, changes, reads, writes}

-- an operand at an odd address is an address error at its first word, whatever follows it
pub misplaced : {A : Type 0} (kind : Kind) (size : Size) (at : ℕ) (more : List Access) → is_misaligned size at ≡ true → Follows (one kind size at ++ more) (actions.odd {A = A} at (is_read kind))
misplaced kind Byte at more e = absurd (cc)
misplaced kind Word at more e = odd_first _ (record { kind = kind; size = Word; address = at }) (words more) refl e
misplaced kind Long at more e =
    odd_first _ (record { kind = kind; size = Word; address = at }) (one kind Word ((at + 2) % 2 ^ 32) ++ words more) refl e

-- an operand in memory is read, or written
fetch_by : (size : Size) (at : ℕ) (regs : Regs) (test : Bool) → is_misaligned size at ≡ test → Follows (one Read size at) (operands.fetch size (standing size at) regs)
unfolding operands.fetch standing
fetch_by size at regs true e = rw e (misplaced Read size at [] e)
fetch_by size at regs false e = rw e (read size at)

stored : (size : Size) (at value : ℕ) (regs : Regs) → Follows (one Write size at) (operands.stored size at value regs)
unfolding operands.stored
stored size at value regs = last _ _ _ (write size at value) (λ written. give regs)

put_by : (size : Size) (at value : ℕ) (regs : Regs) (test : Bool) → is_misaligned size at ≡ test → Follows (one Write size at) (operands.put size (standing size at) value regs)
unfolding operands.put standing
put_by size at value regs true e = rw e (misplaced Write size at [] e)
put_by size at value regs false e = rw e (stored size at value regs)

-- where a mode names
pub fetch : (size : Size) (mode : Mode) (pc : ℕ) (regs others : Regs) → Follows (reads size mode pc regs) (operands.fetch size (place_of mode size regs pc) others)
unfolding operands.fetch
fetch size (Data n) pc regs others = give _
fetch size (Address n) pc regs others = give _
fetch size (Immediate value) pc regs others = give _
fetch size mode pc regs others = fetch_by size (effective_address mode size regs pc) others (is_misaligned size (effective_address mode size regs pc)) refl

pub put : (size : Size) (mode : Mode) (pc value : ℕ) (regs others : Regs) → Follows (writes size mode pc regs) (operands.put size (place_of mode size regs pc) value others)
unfolding operands.put
put size (Data n) pc value regs others = give _
put size (Address n) pc value regs others = give _
put size (Immediate number) pc value regs others = give _
put size mode pc value regs others = put_by size (effective_address mode size regs pc) value others (is_misaligned size (effective_address mode size regs pc)) refl

pub store : (mode : Mode) (size : Size) (value pc : ℕ) (regs : Regs) → Follows (writes size mode pc regs) (operands.store mode size value pc regs)
unfolding operands.store
store mode size value pc regs = put size mode pc value regs (stepped mode size regs)

-- an operand is read, and what comes next knows the registers after it
pub after_load : {B : Type 0} (v : List Access) (mode : Mode) (size : Size) (pc : ℕ) (regs : Regs) (next : Operand → Act B) → ((value : ℕ) → Follows v (next (record { value = value; regs = stepped mode size regs }))) → Follows (reads size mode pc regs ++ v) (operands.load mode size pc regs >>= next)
unfolding operands.load
after_load v mode size pc regs next k =
    through (reads size mode pc regs ++ v) (operands.fetch size (place_of mode size regs pc) regs) (λ value. record { value = value; regs = stepped mode size regs }) next
    (bind (reads size mode pc regs) v _ _ (fetch size mode pc regs regs) k)

pub load : (mode : Mode) (size : Size) (pc : ℕ) (regs : Regs) → Follows (reads size mode pc regs) (operands.load mode size pc regs)
unfolding operands.load
load mode size pc regs = last _ _ _ (fetch size mode pc regs regs) (λ value. give _)

-- the stack
pub push : (size : Size) (value : ℕ) (regs : Regs) → Follows (one Write size (below (stack_of regs) (bytes_of size))) (operands.push size value regs)
unfolding operands.push
push size value regs = last _ _ _ (write size _ value) (λ written. give _)

pub pull : (size : Size) (regs : Regs) → Follows (one Read size (stack_of regs)) (operands.pull size regs)
unfolding operands.pull
pull size regs = last _ _ _ (read size (stack_of regs)) (λ value. give _)

pub after_pull : {B : Type 0} (v : List Access) (size : Size) (regs : Regs) (next : Operand → Act B) → ((value : ℕ) → Follows v (next (record { value = value; regs = with_address regs 7 ((stack_of regs + bytes_of size) % 2 ^ 32) }))) → Follows (one Read size (stack_of regs) ++ v) (operands.pull size regs >>= next)
unfolding operands.pull
after_pull v size regs next k =
    through (one Read size (stack_of regs) ++ v) (actions.read size (stack_of regs)) (λ value. record { value = value; regs = with_address regs 7 ((stack_of regs + bytes_of size) % 2 ^ 32) }) next
    (bind (one Read size (stack_of regs)) v _ _ (read size (stack_of regs)) k)

-- the shapes
pub test_operand : (operation : Task) (size : Size) (number : ℕ) (mode : Mode) (pc : ℕ) (regs : Regs) → Follows (reads size mode pc regs) (shapes.test_operand operation size number mode pc regs)
unfolding shapes.test_operand
test_operand operation size number mode pc regs = last _ _ _ (load mode size pc regs) (λ operand. give _)

pub change_operand : (operation : Task) (size : Size) (number : ℕ) (mode : Mode) (pc : ℕ) (regs : Regs) → Follows (changes size mode pc regs) (shapes.change_operand operation size number mode pc regs)
unfolding shapes.change_operand
change_operand operation size number mode pc regs =
    bind (reads size mode pc regs) (writes size mode pc regs) _ _ (fetch size mode pc regs _) (λ old.
    last _ _ _ (put size mode pc _ regs _) (λ after. give _))

pub change_register : (operation : Task) (size : Size) (n : ℕ) (mode : Mode) (pc : ℕ) (regs : Regs) → Follows (reads size mode pc regs) (shapes.change_register operation size n mode pc regs)
unfolding shapes.change_register
change_register operation size n mode pc regs = last _ _ _ (load mode size pc regs) (λ operand. give _)
