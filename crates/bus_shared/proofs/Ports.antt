-- The VDP's registers stay bytes, and what its ports give has its width.
use Rattle.std.proofs.Common.{◌≡◌, ℕ, ◌+◌, ◌*◌, ◌/◌, ◌%◌, ◌^◌, ◌<◌, ◌≤◌, ◌==◌, nat_lt, Bool, true, false, ◌&&◌, if◌then◌else◌, List, length, Some, None, IfSome, refl, inl, inr, arith, lit<, lit≤}
use Rattle.std.specs.Prelude.{slice_index}
use Rattle.std.proofs.Math.ListN.{get_or-eq_default}
use Rattle.std.proofs.lemmas.Bool.{cases_lt}
use Rattle.std.proofs.lemmas.List.Elements.{All-get_or, All-replicate, All-set}
use Rattle.md_word.specs.Clock.{line}
use Rattle.vdp_ports.specs.Vdp.{Vdp, at_power_on, is_shown, register}
use Rattle.vdp_ports.specs.Dma.{copying, dropped, filling, length_of}
use Rattle.vdp_ports.specs.Data.{accessed, place, put, transferred, written}
use Rattle.vdp_ports.specs.Control.{acknowledged, armed, bit, controlled, first, second, source_of, started, started_by, starts, status, status_read, stored, transfer_of, transfers}
use Rattle.vdp_ports.proofs.Kept.{length-most}
use Rattle.vdp_dma.specs.Settling.{advanced, due, finished, is_busy, moved, settled, vram_at}
use Rattle.vdp_planes.specs.declared.view.SpriteNote.{SpriteNote}
use Rattle.md_word.specs.Region.{height}
use Rattle.vdp_time.specs.Lines.{counted, heightened, h_blank, h_counter, hv, jumping, line_of, line_started, raised, v_blank, v_counter}
use Rattle.bus_shared.specs.Board.{AreBytes}
use Rattle.bus_shared.specs.Laws.{IsTransfer, IsWordCost}
use Rattle.bus_shared.specs.Video.{half_at, is_wide, joined, line_begun, port_read, port_transfer, port_word, port_written, with_cost, word_cost}
use Rattle.bus_shared.specs.declared.port.VideoPort.{VideoPort}
use Rattle.bus_shared.specs.declared.port.VideoPort.TheVariants.{Data, Control, Counter, Sound, Unused}

-- a choice keeps bytes where both of its sides do
bytes-if : (b : Bool) (s t : Vdp) → AreBytes s.registers → AreBytes t.registers → AreBytes (if b then s else t).registers
bytes-if true s t h k = h
bytes-if false s t h k = k

low-byte : (value : ℕ) → value % 256 < 0x100
low-byte value = omega arith

-- settling
advanced-bytes : (n : ℕ) (vram : List ℕ) (s : Vdp) → AreBytes s.registers → AreBytes (advanced n vram s).registers
unfolding advanced moved finished
advanced-bytes n vram s h = bytes-if (nat_lt n s.left) _ _ h h

settled-bytes : (cycle : ℕ) (s : Vdp) → AreBytes s.registers → AreBytes (settled cycle s).registers
unfolding settled
settled-bytes cycle s h = bytes-if (length (due cycle s) == 0) _ _ h (advanced-bytes (length (due cycle s)) (vram_at cycle s) s h)

-- the data port
put-bytes : (word : ℕ) (s : Vdp) → AreBytes s.registers → AreBytes (put word s).registers
unfolding put
put-bytes word s h =
    bytes-if (s.code % 16 == 1) _ _ h (bytes-if (s.code % 16 == 3) _ _ h (bytes-if ((s.code % 16 == 5) && nat_lt (place s) 40) _ _ h h))

transferred-bytes : (word : ℕ) (s : Vdp) → AreBytes s.registers → AreBytes (transferred word s).registers
unfolding transferred accessed
transferred-bytes word s h = put-bytes word s h

written-bytes : (cycle word : ℕ) (s : Vdp) → AreBytes s.registers → AreBytes (written cycle word s).registers
unfolding written filling
written-bytes cycle word s h = bytes-if s.armed _ _ (transferred-bytes word s h) (transferred-bytes word s h)

-- the control port
stored-bytes : (word : ℕ) (s : Vdp) → AreBytes s.registers → AreBytes (stored word s).registers
unfolding stored
stored-bytes word s h =
    bytes-if (nat_lt (word / 256 % 32) 24) _ _ (All-set (λ (value : ℕ). value < 0x100) s.registers (word / 256 % 32) (word % 256) (low-byte word) h) h

started-bytes : (cycle : ℕ) (s : Vdp) → AreBytes s.registers → AreBytes (started cycle s).registers
unfolding started dropped armed copying
started-bytes cycle s h = bytes-if (transfers s) _ _ h (bytes-if (register s 23 / 64 == 2) _ _ h h)

second-bytes : (word : ℕ) (s : Vdp) → AreBytes s.registers → AreBytes (second word s).registers
unfolding second
second-bytes word s h = h

first-bytes : (word : ℕ) (s : Vdp) → AreBytes s.registers → AreBytes (first word s).registers
unfolding first
first-bytes word s h = h

controlled-bytes : (cycle word : ℕ) (s : Vdp) → AreBytes s.registers → AreBytes (controlled cycle word s).registers
unfolding controlled
controlled-bytes cycle word s h =
    bytes-if s.pending _ _
    (bytes-if (starts (second word s)) _ _ (started-bytes cycle (second word s) (second-bytes word s h)) (second-bytes word s h))
    (bytes-if (word / 0x4000 == 2) _ _ (stored-bytes word s h) (first-bytes word s h))

-- each access of the board
pub data_read_bytes : (cycle : ℕ) (s : Vdp) → AreBytes s.registers → AreBytes (accessed (settled cycle s)).registers
unfolding accessed
data_read_bytes cycle s h = settled-bytes cycle s h

pub status_read_bytes : (cycle : ℕ) (s : Vdp) → AreBytes s.registers → AreBytes (status_read (settled cycle s)).registers
unfolding status_read
status_read_bytes cycle s h = settled-bytes cycle s h

pub data_written_bytes : (cycle word : ℕ) (s : Vdp) → AreBytes s.registers → AreBytes (written cycle word (settled cycle s)).registers
data_written_bytes cycle word s h = written-bytes cycle word (settled cycle s) (settled-bytes cycle s h)

pub control_written_bytes : (cycle word : ℕ) (s : Vdp) → AreBytes s.registers → AreBytes (controlled cycle word (settled cycle s)).registers
control_written_bytes cycle word s h = controlled-bytes cycle word (settled cycle s) (settled-bytes cycle s h)

pub port_read_bytes : (port : VideoPort) (cycle : ℕ) (s : Vdp) → AreBytes s.registers → AreBytes (port_read port cycle s).registers
unfolding port_read
port_read_bytes Data cycle s h = data_read_bytes cycle s h
port_read_bytes Control cycle s h = status_read_bytes cycle s h
port_read_bytes Counter cycle s h = h
port_read_bytes Sound cycle s h = h
port_read_bytes Unused cycle s h = h

pub port_written_bytes : (port : VideoPort) (cycle word : ℕ) (s : Vdp) → AreBytes s.registers → AreBytes (port_written port cycle word s).registers
unfolding port_written
port_written_bytes Data cycle word s h = data_written_bytes cycle word s h
port_written_bytes Control cycle word s h = control_written_bytes cycle word s h
port_written_bytes Counter cycle word s h = h
port_written_bytes Sound cycle word s h = h
port_written_bytes Unused cycle word s h = h

pub taken_bytes : (cycle word : ℕ) (s : Vdp) → AreBytes s.registers → AreBytes (transferred word (settled cycle s)).registers
taken_bytes cycle word s h = transferred-bytes word (settled cycle s) (settled-bytes cycle s h)

pub acknowledged_bytes : (n : ℕ) (s : Vdp) → AreBytes s.registers → AreBytes (acknowledged n s).registers
unfolding acknowledged
acknowledged_bytes n s h = bytes-if (n == 6) _ _ h (bytes-if (n == 4) _ _ h h)

counted-bytes : (number : ℕ) (s : Vdp) → AreBytes s.registers → AreBytes (counted number s).registers
unfolding counted
counted-bytes number s h = bytes-if (nat_lt number (height s.tall)) _ _ (bytes-if (s.line_counter == 0) _ _ h h) h

heightened-bytes : (number : ℕ) (s : Vdp) → AreBytes s.registers → AreBytes (heightened number s).registers
unfolding heightened
heightened-bytes number s h = bytes-if (number == 0) _ _ h h

raised-bytes : (cycle number : ℕ) (s : Vdp) → AreBytes s.registers → AreBytes (raised cycle number s).registers
unfolding raised
raised-bytes cycle number s h = bytes-if (number == height s.tall) _ _ h h

line_started-bytes : (cycle : ℕ) (s : Vdp) → AreBytes s.registers → AreBytes (line_started cycle s).registers
unfolding line_started
line_started-bytes cycle s h =
    let n = line_of cycle s.pal in
    raised-bytes cycle n (counted n (heightened n s)) (counted-bytes n (heightened n s) (heightened-bytes n s h))

pub line_begun_bytes : (cycle : ℕ) (note : SpriteNote) (s : Vdp) → AreBytes s.registers → AreBytes (line_begun cycle note s).registers
unfolding line_begun
line_begun_bytes cycle note s h = line_started-bytes cycle (joined note (settled cycle s)) (settled-bytes cycle s h)

pub power_on_bytes : (pal : Bool) → AreBytes (at_power_on pal).registers
power_on_bytes pal = All-replicate (λ (value : ℕ). value < 0x100) 24 0 (lit< tt)

-- a register is a byte, also one that there is not
register-byte : (registers : List ℕ) (n : ℕ) → AreBytes registers → slice_index registers n < 0x100
register-byte registers n h = elim (cases_lt n (length registers)) [
  | inl less ↦ All-get_or (λ (value : ℕ). value < 0x100) registers n 0 less h
  | inr more ↦ (rw (get_or-eq_default registers 0 more) (lit< tt))
]

-- what a transfer starts with
source-even : (s : Vdp) → source_of s % 2 ≡ 0
unfolding source_of
source-even s = omega arith

source-on-bus : (s : Vdp) → AreBytes s.registers → source_of s < 2 ^ 24
unfolding source_of
source-on-bus s h = omega (arith, register-byte s.registers 21 h, register-byte s.registers 22 h)

length-some : (s : Vdp) → 1 ≤ length_of s
unfolding length_of
length-some s = omega arith

cost-by : (b : Bool) → IsWordCost (if b then 34 else 380)
cost-by true = inl refl
cost-by false = inr refl

pub cost-of-word : (cycle : ℕ) (s : Vdp) → IsWordCost (word_cost cycle s)
unfolding word_cost
cost-of-word cycle s = cost-by (v_blank cycle (is_shown s.registers) s.pal s.tall)

transfer-by : (b : Bool) (cost : ℕ) (s : Vdp) → IsWordCost cost → AreBytes s.registers
    → IfSome (with_cost cost (if b then Some (source_of s, length_of s) else None)) IsTransfer
transfer-by true cost s known h = record { some = length-some s; most = length-most s; even = source-even s; on_bus = source-on-bus s h; cost = known }
transfer-by false cost s known h = tt

second-by : (b : Bool) (cost word : ℕ) (s : Vdp) → IsWordCost cost → AreBytes s.registers
    → IfSome (with_cost cost (if b then transfer_of (second word s) else None)) IsTransfer
unfolding transfer_of
second-by true cost word s known h = transfer-by (starts (second word s) && transfers (second word s)) cost (second word s) known (second-bytes word s h)
second-by false cost word s known h = tt

pub transfer-sound : (port : VideoPort) (cycle word : ℕ) (s : Vdp) → AreBytes s.registers → IfSome (port_transfer port cycle word s) IsTransfer
unfolding port_transfer started_by
transfer-sound Data cycle word s h = tt
transfer-sound Control cycle word s h = second-by (settled cycle s).pending (word_cost cycle s) word (settled cycle s) (cost-of-word cycle s) (settled-bytes cycle s h)
transfer-sound Counter cycle word s h = tt
transfer-sound Sound cycle word s h = tt
transfer-sound Unused cycle word s h = tt

-- a port gives a word
bit-below : (b : Bool) → bit b ≤ 1
bit-below true = omega arith
bit-below false = omega arith

status-below : (busy hb vb : Bool) (s : Vdp) → status busy hb vb s < 0x1_0000
unfolding status
status-below busy hb vb s = omega (arith, bit-below s.vertical, bit-below s.overflow, bit-below s.collision, bit-below vb, bit-below hb, bit-below busy, bit-below s.pal)

jumping-below : (last again k : ℕ) → last ≤ 256 → again + k < 256 + last → jumping last again k < 256
unfolding jumping
jumping-below last again k most less = grind (arith, most, less)

v-below : (cycle : ℕ) (pal tall : Bool) → v_counter cycle pal tall < 256
unfolding v_counter
v-below cycle pal tall = omega arith

h-by : (wide : Bool) (cycle : ℕ) → (if wide then jumping 183 228 (cycle % line * 211 / line) else jumping 148 233 (cycle % line / 20)) < 256
h-by true cycle = jumping-below 183 228 _ (lit≤ tt) (omega arith)
h-by false cycle = jumping-below 148 233 _ (lit≤ tt) (omega arith)

h-below : (cycle : ℕ) (wide : Bool) → h_counter cycle wide < 256
unfolding h_counter
h-below cycle wide = h-by wide cycle

hv-below : (cycle : ℕ) (wide pal tall : Bool) → hv cycle wide pal tall < 0x1_0000
unfolding hv
hv-below cycle wide pal tall = omega (arith, v-below cycle pal tall, h-below cycle wide)

pub port-below : (port : VideoPort) (cycle : ℕ) (s : Vdp) → port_word port cycle s < 0x1_0000
unfolding port_word
port-below Data cycle s = omega arith
port-below Control cycle s = status-below (is_busy cycle (settled cycle s)) (h_blank cycle) (v_blank cycle (is_shown (settled cycle s).registers) (settled cycle s).pal (settled cycle s).tall) (settled cycle s)
port-below Counter cycle s = hv-below cycle (is_wide s) s.pal s.tall
port-below Sound cycle s = lit< tt
port-below Unused cycle s = lit< tt

half-by : (b : Bool) (word : ℕ) → word < 0x1_0000 → (if b then word / 0x100 else word % 0x100) < 0x100
half-by true word h = omega (arith, h)
half-by false word h = omega arith

pub half-below : (address word : ℕ) → word < 0x1_0000 → half_at address word < 0x100
half-below address word h = half-by (address % 2 == 0) word h
