-- The requests of an instruction are the shared words of its footprint in order.
use Rattle.std.specs.Prelude.{ℕ, ◌≡◌, ◌<◌, ◌++◌, ◌∷◌, Bool, List, All, length, IsTrue, Some, Ok, Err, slice_get, slice_index}
use Rattle.md_word.specs.Map.{is_shared}
use Rattle.md_word.specs.declared.main_bus.Request68.{Request68}
use Rattle.md_word.specs.declared.main_bus.Request68.TheVariants.{Read8, Read16, Write8, Write16}
use Rattle.md_word.specs.declared.regs.Regs.{Regs}
use Rattle.md_word.specs.declared.size.Size.{Size}
use Rattle.md_word.specs.declared.size.Size.TheVariants.{Byte, Word, Long}
use Rattle.m68k_decode.specs.Instructions.{instruction_of}
use Rattle.m68k_decode.specs.declared.op.Op.{Op}
use Rattle.md_word.specs.Answers.{Done}
use Rattle.m68k_access.specs.Memory.{Memory, bus_address}
use Rattle.m68k_access.specs.Outcomes.{Outcome}
use Rattle.m68k_exec.specs.Sample.Execution.{row}
use Rattle.m68k_exec.specs.Sample.Samples.{nothing}
use Rattle.m68k_access.specs.declared.stop.Stop.TheVariants.{Ask, Odd}
use Rattle.m68k_laws.specs.Accesses.{Access, IsEven, Kind, Read, Write, is_odd, is_read, shared, words}
use Rattle.m68k_laws.specs.Footprints.{MovesWords, footprint}

-- the request of one access, with its address on the bus; what is written is free
abbrev pub Requests : Kind → Size → ℕ → Request68 → Type 0
Requests Read Byte address request = request ≡ Read8 (bus_address address)
Requests Read Word address request = request ≡ Read16 (bus_address address)
Requests Write Byte address request = (value : ℕ) × (request ≡ Write8 (bus_address address) value)
Requests Write Word address request = (value : ℕ) × (request ≡ Write16 (bus_address address) value)
Requests kind Long address request = ⊥

-- it is one of these accesses, with so many shared ones before it, none of which is an address error
pub record LeadsTo (list : List Access) (count : ℕ) (access : Access) : Type 0 where
  pub before : List Access
  pub following : List Access
  pub split : list ≡ before ++ access ∷ following
  pub even : All IsEven before
  pub counted : count ≡ length (shared before)

-- the request is that of the shared one of this number, counted from 0
pub record WaitsAt (list : List Access) (count : ℕ) (asked : Request68) : Type 0 where
  pub access : Access
  pub numbered : slice_get (shared list) count ≡ Some access
  pub leads : LeadsTo list count access
  pub even : IsEven access
  pub shared : IsTrue (is_shared (bus_address access.address))
  pub request : Requests access.kind access.size access.address asked

-- the address error is the first odd one, and so many shared ones come before it
pub record FaultsAt (list : List Access) (count at : ℕ) (reading : Bool) : Type 0 where
  pub access : Access
  pub leads : LeadsTo list count access
  pub odd : IsTrue (is_odd access)
  pub address : access.address ≡ at
  pub read : is_read access.kind ≡ reading

-- all were made: none is odd, and so many are shared
pub record IsComplete (list : List Access) (count : ℕ) : Type 0 where
  pub even : All IsEven list
  pub counted : count ≡ length (shared list)

-- Each instruction at any address, with any registers, cartridge, work RAM and answers. Where it waits for an
-- answer, the request is that of the next shared word of its footprint, so many being before it as there are
-- answers. Where it results in an outcome, also one that ends in an exception, it took an answer for each
-- shared word. An address error is the first odd word. What words of 16 bits decode to meets the premise.
pub record InstructionsFollowFootprints : Type 0 where
  pub decodes : (list : List ℕ) → slice_index list 1 < 65536 → MovesWords (instruction_of list).op
  pub waits : (op : Op) (start : ℕ) (regs : Regs) (memory : Memory) (request : Request68) → MovesWords op → row op start regs memory nothing ≡ Err (Ask request) → WaitsAt (words (footprint op start regs)) (length memory.answers) request
  pub completes : (op : Op) (start : ℕ) (regs : Regs) (memory : Memory) (outcome : Outcome) (after : Done) → MovesWords op → row op start regs memory nothing ≡ Ok (outcome, after) → IsComplete (words (footprint op start regs)) after.used
  pub faults : (op : Op) (start : ℕ) (regs : Regs) (memory : Memory) (address : ℕ) (read : Bool) (used : ℕ) → MovesWords op → row op start regs memory nothing ≡ Err (Odd address read used) → FaultsAt (words (footprint op start regs)) used address read
