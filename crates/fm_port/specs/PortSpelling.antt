-- The bytes of a saved state that keep the port: latches, timers settled below the state's cycle, how many
-- writes it holds, the writes, and zeros in the places that are not used. This project's profile.
use Rattle.std.specs.Prelude.{ℕ, ◌+◌, ◌-◌, ◌/◌, ◌%◌, ◌==◌, ◌≤◌, nat_le, nat_lt, min, true, Bool, ◌&&◌, ◌||◌, if◌then◌else◌, List, [], ◌∷◌, ◌++◌, length, map, slice_index}
use Rattle.std.specs.List.{list_all}
use Rattle.std.specs.Int.{w64}
use Rattle.std.proofs.Common.{arith}
use Rattle.md_word.specs.Coding.{flag_number}
use Rattle.md_word.specs.declared.key.Key.{Key}
use Rattle.md_fields.specs.Fields.{Field, byte, quad, spelling}
use Rattle.md_fields.specs.Items.{IsRefused, IsRight, Keeps}
use Rattle.md_fields.specs.Padding.{padded}
use Rattle.md_fields.specs.Places.{number_at}
use Rattle.sound_writes.specs.Entries.{AreFit, entries_bytes, entries_from}
use Rattle.sound_writes.specs.Keys.{are_kept}
use Rattle.sound_writes.specs.Ports as ports
use Rattle.fm_port.specs.Port.{Port}
use Rattle.fm_port.specs.Timers.{both_settled}
use Rattle.fm_port.specs.declared.saved_port.SavedPort.{SavedPort as Numbers}
use Rattle.fm_port.specs.declared.saved_write.SavedWrite.{SavedWrite}
use Rattle.fm_port.specs.declared.timer.Timer.{Timer}
use Rattle.fm_port.specs.declared.timers.Timers.{Timers}
use Rattle.fm_port.specs.declared.write.FmWrite.{FmWrite}

-- how many bytes keep a port
abbrev pub port_size : ℕ
port_size = 12316

-- the offset of the number of the writes, after latches and timers
abbrev pub count_offset : ℕ
count_offset = 26

-- the offset of the writes
abbrev pub entries_offset : ℕ
entries_offset = 28

-- how many bytes the writes and the unused places have
abbrev pub entries_size : ℕ
entries_size = 12288

-- ---- a write

-- the numbers of a write as fields
abbrev pub write_fields : SavedWrite → List Field
write_fields w = quad w.cycle true ∷ byte w.chip true ∷ byte w.port true ∷ byte w.register true ∷ byte w.value true ∷ []

-- the numbers of the write at an offset
abbrev pub write_at : ℕ → List ℕ → SavedWrite
write_at place bytes = record {
  cycle = number_at w64 place bytes;
  chip = slice_index bytes (place + 8);
  port = slice_index bytes (place + 9);
  register = slice_index bytes (place + 10);
  value = slice_index bytes (place + 11);
}

-- the first so many
abbrev pub writes_at : ℕ → List ℕ → List SavedWrite
writes_at count entries = entries_from 12 write_at count 0 entries

-- what is kept of a write
abbrev pub saved_write_of : FmWrite → SavedWrite
saved_write_of w = record { cycle = w.key.cycle; chip = w.key.chip; port = w.port; register = w.register; value = w.value }

-- the cycle of a write, and the chip that made it
abbrev pub key_of : SavedWrite → Key
key_of w = record { cycle = w.cycle; chip = w.chip }

-- a number, or 2 where it is more, is a port
pub at_most_2 : (n : ℕ) → min n 2 ≤ 2
at_most_2 n = omega arith

-- the write of which this is kept; a port above 2 is taken for 2
abbrev pub write_from : SavedWrite → FmWrite
write_from w = record { key = key_of w; port = min w.port 2; register = w.register; value = w.value; port_in_range = at_most_2 w.port }

-- a byte for one of the two ports, or a reset, which is the 68000's and has no register and no value
abbrev pub is_write : SavedWrite → Bool
is_write w = nat_lt w.port 2 || ((w.port == 2) && ((w.chip == 0) && ((w.register == 0) && (w.value == 0))))

-- ---- the port

-- what is kept, whatever it is: latches and timers, the number of the writes, and the bytes of 1,024 of
-- twelve bytes each
pub record SavedPort : Type 0 where
  pub numbers : Numbers
  pub count : ℕ
  pub entries : List ℕ

-- a timer that runs overflows next less than its longest period after the cycle; the next of one that
-- is stopped is 0
abbrev pub is_next : ℕ → ℕ → ℕ → ℕ → Bool
is_next at longest run next = if run == 1 then nat_le at next && nat_lt (next - at) longest else (next == 0)

-- a timer runs where its bit of register 27 is set, and its next overflow is right
abbrev pub is_saved_timer : ℕ → ℕ → ℕ → ℕ → ℕ → Bool
is_saved_timer at longest bit run next = (run == bit) && is_next at longest run next

-- both timers of a port are so at a cycle
abbrev pub are_saved_timers : ℕ → Timers → Bool
are_saved_timers at t =
    is_saved_timer at 1032192 (t.control % 2) (flag_number t.a.run) t.a.next && is_saved_timer at 4128768 (t.control / 2 % 2) (flag_number t.b.run) t.b.next

-- each is a write, and their keys are such as a port holds at the cycle
abbrev pub are_right : ℕ → List SavedWrite → Bool
are_right at ws = list_all is_write ws && are_kept at (map key_of ws)

-- at most 1,024 writes, with keys that a port holds at the cycle, and zeros after them
abbrev pub are_writes : ℕ → ℕ → List ℕ → Bool
are_writes at count entries = ports.are_writes 12 write_at (are_right at) count entries

-- the fields of latches and timers in their order, and their rules: a timer's run goes by register 27,
-- and its next overflow by its run
abbrev pub number_fields : ℕ → Numbers → List Field
number_fields at s =
    byte s.first true
    ∷ byte s.second true
    ∷ byte s.high_a true
    ∷ byte s.low_a true
    ∷ byte s.number_b true
    ∷ byte s.control true
    ∷ byte s.run_a (s.run_a == s.control % 2)
    ∷ quad s.next_a (is_next at 1032192 s.run_a s.next_a)
    ∷ byte s.run_b (s.run_b == s.control / 2 % 2)
    ∷ quad s.next_b (is_next at 4128768 s.run_b s.next_b)
    ∷ byte s.flag_a (nat_le s.flag_a 1)
    ∷ byte s.flag_b (nat_le s.flag_b 1)
    ∷ []

-- the fields of the writes: count and writes are one field, whose rule is at the first field
abbrev pub list_fields : ℕ → SavedPort → List Field
list_fields at s = ports.list_fields entries_size (are_writes at s.count s.entries) s.count s.entries

-- all fields in their order, and their rules, by the cycle of the state
abbrev pub port_fields : ℕ → SavedPort → List Field
port_fields at s = number_fields at s.numbers ++ list_fields at s

-- what is kept of latches and timers
abbrev pub saved_numbers : Port → Numbers
saved_numbers p = record {
  first = p.first;
  second = p.second;
  high_a = p.timers.high_a;
  low_a = p.timers.low_a;
  number_b = p.timers.number_b;
  control = p.timers.control;
  run_a = flag_number p.timers.a.run;
  next_a = p.timers.a.next;
  run_b = flag_number p.timers.b.run;
  next_b = p.timers.b.next;
  flag_a = flag_number p.timers.a.flag;
  flag_b = flag_number p.timers.b.flag;
}

-- what is kept of a port
abbrev pub saved_port_of : Port → SavedPort
saved_port_of p = record {
  numbers = saved_numbers p;
  count = length p.writes;
  entries = padded entries_size (entries_bytes write_fields (map saved_write_of p.writes));
}

-- the timer of which these numbers are kept
abbrev pub timer_from : ℕ → ℕ → ℕ → Timer
timer_from run next flag = record { run = (run == 1); next = next; flag = (flag == 1) }

-- both timers, with their registers, of which these numbers are kept
abbrev pub timers_from : Numbers → Timers
timers_from s = record {
  high_a = s.high_a;
  low_a = s.low_a;
  number_b = s.number_b;
  control = s.control;
  a = timer_from s.run_a s.next_a s.flag_a;
  b = timer_from s.run_b s.next_b s.flag_b;
}

-- the port with latches and timers of which these numbers are kept, and these writes
abbrev pub port_with : Numbers → List FmWrite → Port
port_with s writes = record { first = s.first; second = s.second; timers = timers_from s; writes = writes }

-- the first so many writes in the bytes
abbrev pub writes_from : ℕ → List ℕ → List FmWrite
writes_from count entries = map write_from (writes_at count entries)

-- the port of which this is kept
abbrev pub port_from : SavedPort → Port
port_from s = port_with s.numbers (writes_from s.count s.entries)

-- the port with the overflows below a cycle made, as it is kept
abbrev pub settled_port : ℕ → Port → Port
settled_port at p = record p { timers = both_settled at p.timers }

-- the bytes that keep a port; the rules, and so the cycle, have no part in them
abbrev pub port_bytes : Port → List ℕ
port_bytes p = spelling (port_fields 0 (saved_port_of p))

-- the bytes of a state at a cycle keep the port, whose rules hold
pub record SpellsPort (at : ℕ) (bytes : List ℕ) (p : Port) : Type 0 where
  pub keeps : Keeps (port_fields at) bytes (saved_port_of p)
  pub right : IsRight (port_fields at) (saved_port_of p)
  pub fit : AreFit write_fields (map saved_write_of p.writes)

-- bytes that keep no port are refused at this place
abbrev pub PortInvalidAt : ℕ → List ℕ → ℕ → Type 0
PortInvalidAt at bytes place = IsRefused port_size (port_fields at) bytes place
