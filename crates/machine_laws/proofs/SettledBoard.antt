-- What an access reports, and what it leaves, where fill, copy and the timers were settled before.
use Rattle.std.proofs.Common.{◌≡◌, ◌∙◌, refl, sym, ap, ap₂, ℕ, ◌*◌, ◌/◌, ◌%◌, ◌≤◌, ◌==◌, ◌&&◌, nat_lt, nat_le, Bool, true, false, if◌then◌else◌, List, Option, Some, None, length, slice_index, le_refl}
use Rattle.vdp_dma.proofs.Regions.{settled_region}
use Rattle.md_word.specs.Region.{finished_at, frame_cycles}
use Rattle.md_word.specs.Map.{area_of}
use Rattle.md_word.specs.declared.area.Area.{Area}
use Rattle.md_word.specs.declared.area.Area.TheVariants.{Z80Space, InputOutput, BusRequest, Z80Reset, VideoPorts}
use Rattle.md_word.specs.declared.key.Key.{Key}
use Rattle.md_word.specs.declared.main_bus.Request68.{Request68}
use Rattle.md_word.specs.declared.main_bus.Request68.TheVariants.{Read8, Read16, Write8, Write16, Ack, Word}
use Rattle.md_pads.specs.Pad.{control_written, value_written}
use Rattle.md_pads.specs.Recording.{pads_of}
use Rattle.fm_port.specs.Port.{Port, first_write, held_with as fm_held_with, left_from as fm_left_from, reset, second_write, written}
use Rattle.fm_port.specs.PortSpelling.{settled_port}
use Rattle.fm_port.specs.Timers.{both_settled, status, stored, timed}
use Rattle.fm_port.specs.declared.timers.Timers.{Timers}
use Rattle.psg_sound.specs.Port.{held_with, left_from}
use Rattle.vdp_dma.specs.Settling.{advanced, due, finished, moved, settled}
use Rattle.vdp_dma.proofs.Settled.{settled_twice}
use Rattle.vdp_planes.specs.declared.view.SpriteNote.{SpriteNote}
use Rattle.vdp_ports.specs.Control.{controlled, level, status_read}
use Rattle.vdp_ports.specs.Data.{accessed, transferred, written as data_written}
use Rattle.vdp_ports.specs.Vdp.{Vdp}
use Rattle.z80_parcel.specs.Parcels.{Store, is_ram, ram_place}
use Rattle.z80_parcel.specs.Requests.{RequestValue80, ReadByte, WriteByte, HandOver, TakeBack, Byte}
use Rattle.bus_shared.proofs.Unseen.{same-if, unseen}
use Rattle.bus_shared.specs.Accesses.{SubOutcome, level_of, line_board, main_answer, main_board, main_reported, main_transfer, main_value, main_cost, pads_board, psg_board, sub_access, sub_pins, taken_back, video_started, yielded}
use Rattle.bus_shared.specs.Areas.{byte_at, byte_in, byte_written_at, byte_written_in, read_at, read_in, transfer_at, transfer_in, word_at, word_in, word_written_at, word_written_in}
use Rattle.bus_shared.specs.Board.{Board}
use Rattle.bus_shared.specs.Entries.{main_entry, sub_entry}
use Rattle.bus_shared.specs.Fm.{chip_byte, chip_read, fm_board, fm_status, is_fm, with_fm}
use Rattle.bus_shared.specs.Lines.{counted, requested, reset_written}
use Rattle.bus_shared.specs.Registers.{register_at, register_read, register_written}
use Rattle.bus_shared.specs.Spelling.{settled_board}
use Rattle.bus_shared.specs.Video.{both_halves, half_at, line_begun, port_at, port_read, port_written, video_byte_written, video_word_written}
use Rattle.bus_shared.specs.Z80Space.{granted, is_psg80, space_byte, space_read, space_written, store_written, with_psg, z80_address}
use Rattle.bus_shared.specs.declared.port.VideoPort.{VideoPort}
use Rattle.bus_shared.specs.declared.port.VideoPort.TheVariants.{Data, Control, Counter, Sound, Unused as NoPort}
use Rattle.bus_shared.specs.declared.register.Register.{Register}
use Rattle.bus_shared.specs.declared.register.Register.TheVariants.{Version, Data1, Data2, DataExpansion, Control1, Control2, Unused}
use Rattle.machine_laws.proofs.SettledTimers.{timers-twice}

-- ---- what settling leaves

address-advanced : (n : ℕ) (v : List ℕ) (s : Vdp) → (advanced n v s).a ≡ s.a
unfolding advanced moved finished
address-advanced n v s = same-if (λ (x : Vdp). x.a) (nat_lt n s.left) _ _ s.a refl refl

-- the port's address
address-stays : (at : ℕ) (s : Vdp) → (settled at s).a ≡ s.a
unfolding settled
address-stays at s = same-if (λ (x : Vdp). x.a) (length (due at s) == 0) _ _ s.a refl (address-advanced _ _ s)

-- a choice between two boards, ports and timers, of which each was settled or not
if-boards : (e : ℕ) (b : Bool) (p q x y : Board) → settled_board e p ≡ settled_board e x → settled_board e q ≡ settled_board e y
    → settled_board e (if b then p else q) ≡ settled_board e (if b then x else y)
if-boards e true p q x y first second = first
if-boards e false p q x y first second = second

if-ports : (e : ℕ) (b : Bool) (p q x y : Port) → settled_port e p ≡ settled_port e x → settled_port e q ≡ settled_port e y
    → settled_port e (if b then p else q) ≡ settled_port e (if b then x else y)
if-ports e true p q x y first second = first
if-ports e false p q x y first second = second

if-timers : (e : ℕ) (b : Bool) (p q x y : Timers) → both_settled e p ≡ both_settled e x → both_settled e q ≡ both_settled e y
    → both_settled e (if b then p else q) ≡ both_settled e (if b then x else y)
if-timers e true p q x y first second = first
if-timers e false p q x y first second = second

vdp-again : (e : ℕ) (s : Vdp) → settled e (settled e s) ≡ settled e s
vdp-again e s = settled_twice e e s (le_refl e)

timers-again : (e : ℕ) (t : Timers) → both_settled e (both_settled e t) ≡ both_settled e t
timers-again e t = timers-twice e e t (le_refl e)

port-again : (e : ℕ) (p : Port) → settled_port e (settled_port e p) ≡ settled_port e p
port-again e p = ap (λ (t : Timers). record p { timers = t }) (timers-again e p.timers)

-- the board, settled once more at the cycle or later
pub settled-later : (e c : ℕ) (b : Board) → e ≤ c → settled_board c (settled_board e b) ≡ settled_board c b
settled-later e c b order =
    ap₂ (λ (v : Vdp) (t : Timers). record b { vdp = v; fm = record b.fm { timers = t } }) (settled_twice e c b.vdp order) (timers-twice e c b.fm.timers order)

pub again : (e : ℕ) (b : Board) → settled_board e (settled_board e b) ≡ settled_board e b
again e b = ap₂ (λ (v : Vdp) (p : Port). record b { vdp = v; fm = p }) (vdp-again e b.vdp) (port-again e b.fm)

pub level-same : (e : ℕ) (b : Board) → level_of (settled_board e b) ≡ level_of b
level-same e b = (unseen e e b.vdp (le_refl e)).pins.level_stays

-- ---- the VDP's ports

port_read-same : (e c : ℕ) (port : VideoPort) (s : Vdp) → e ≤ c → settled e (port_read port c (settled e s)) ≡ settled e (port_read port c s)
unfolding port_read
port_read-same e c Data s order = ap (λ (v : Vdp). settled e (accessed v)) (settled_twice e c s order)
port_read-same e c Control s order = ap (λ (v : Vdp). settled e (status_read v)) (settled_twice e c s order)
port_read-same e c Counter s order = vdp-again e s
port_read-same e c Sound s order = vdp-again e s
port_read-same e c NoPort s order = vdp-again e s

port_written-same : (e c word : ℕ) (port : VideoPort) (s : Vdp) → e ≤ c → settled e (port_written port c word (settled e s)) ≡ settled e (port_written port c word s)
unfolding port_written
port_written-same e c word Data s order = ap (λ (v : Vdp). settled e (data_written c word v)) (settled_twice e c s order)
port_written-same e c word Control s order = ap (λ (v : Vdp). settled e (controlled c word v)) (settled_twice e c s order)
port_written-same e c word Counter s order = vdp-again e s
port_written-same e c word Sound s order = vdp-again e s
port_written-same e c word NoPort s order = vdp-again e s

-- a change of the VDP alone
with-vdp : (e : ℕ) (b : Board) (v w : Vdp) → settled e v ≡ settled e w → settled_board e (record (settled_board e b) { vdp = v }) ≡ settled_board e (record b { vdp = w })
with-vdp e b v w same = ap₂ (λ (x : Vdp) (p : Port). record b { vdp = x; fm = p }) same (port-again e b.fm)

-- a change of the FM chip's port alone
with-port : (e : ℕ) (b : Board) (p q : Port) → settled_port e p ≡ settled_port e q → settled_board e (record (settled_board e b) { fm = p }) ≡ settled_board e (record b { fm = q })
with-port e b p q same = ap₂ (λ (x : Vdp) (y : Port). record b { vdp = x; fm = y }) (vdp-again e b.vdp) same

psg-same : (e : ℕ) (b : Board) (key : Key) (value : ℕ) → settled_board e (with_psg (settled_board e b) key value) ≡ settled_board e (with_psg b key value)
psg-same e b key value = ap (λ (x : Board). record x { psg = held_with b.psg key value }) (again e b)

-- ---- the FM chip

timed-same : (e c register value : ℕ) (t : Timers) → e ≤ c → both_settled e (timed c register value (both_settled e t)) ≡ both_settled e (timed c register value t)
unfolding timed
timed-same e c register value t order =
    if-timers e (nat_le 0x24 register && nat_le register 0x27) _ _ _ _
    (ap (λ (x : Timers). both_settled e (stored c register value x)) (timers-twice e c t order)) (timers-again e t)

written-same : (e : ℕ) (key : Key) (address value : ℕ) (p : Port) → e ≤ key.cycle → settled_port e (written key address value (settled_port e p)) ≡ settled_port e (written key address value p)
unfolding written
written-same e key address value p order =
    if-ports e (address == 0) _ _ _ _ (ap (λ (t : Timers). record p { first = value; timers = t }) (timers-again e p.timers)) (
    if-ports e (address == 2) _ _ _ _ (ap (λ (t : Timers). record p { second = value; timers = t }) (timers-again e p.timers)) (
    if-ports e (address == 1) _ _ _ _
    (ap (λ (t : Timers). record p { timers = t; writes = fm_held_with p.writes (first_write key p.first value) }) (timed-same e key.cycle p.first value p.timers order))
    (ap (λ (t : Timers). record p { timers = t; writes = fm_held_with p.writes (second_write key p.second value) }) (timers-again e p.timers))))

fm-same : (e : ℕ) (b : Board) (key : Key) (at value : ℕ) → e ≤ key.cycle → settled_board e (with_fm (settled_board e b) key at value) ≡ settled_board e (with_fm b key at value)
fm-same e b key at value order = with-port e b _ _ (written-same e key (at % 4) value b.fm order)

status-same : (e c : ℕ) (b : Board) → e ≤ c → fm_status (settled_board e b) c ≡ fm_status b c
status-same e c b order = ap (status c) (timers-twice e c b.fm.timers order)

chip-byte-same : (e c at : ℕ) (b : Board) → e ≤ c → chip_byte (settled_board e b) c at ≡ chip_byte b c at
chip-byte-same e c at b order = ap (λ (n : ℕ). if is_fm at then n else 0xff) (status-same e c b order)

chip-read-same : (e c at : ℕ) (b : Board) → e ≤ c → settled_board e (chip_read (settled_board e b) c at) ≡ settled_board e (chip_read b c at)
chip-read-same e c at b order =
    if-boards e (is_fm at) _ _ _ _ (with-port e b _ _ (ap (λ (t : Timers). record b.fm { timers = both_settled e t }) (timers-twice e c b.fm.timers order))) (again e b)

-- ---- the 68000: what is reported to it

space-byte-same : (e c at : ℕ) (store : Option Store) (b : Board) → e ≤ c → space_byte store (settled_board e b) c at ≡ space_byte store b c at
space-byte-same e c at None b order = refl
space-byte-same e c at (Some store) b order = ap (λ (n : ℕ). if is_ram at then slice_index store.ram (ram_place at) % 0x100 else n) (chip-byte-same e c at b order)

register-same : (e : ℕ) (b : Board) (cycle : ℕ) (register : Register) → register_read (settled_board e b) cycle register ≡ register_read b cycle register
unfolding register_read
register-same e b cycle Version = ap (λ (pal : Bool). if pal then 0xe0 else 0xa0) (settled_region e b.vdp)
register-same e b cycle Data1 = refl
register-same e b cycle Data2 = refl
register-same e b cycle DataExpansion = refl
register-same e b cycle Control1 = refl
register-same e b cycle Control2 = refl
register-same e b cycle Unused = refl

byte-same : (e : ℕ) (area : Option Area) (b : Board) (key : Key) (address : ℕ) → e ≤ key.cycle → byte_at area (settled_board e b) key address ≡ byte_at area b key address
unfolding byte_in
byte-same e None b key address order = refl
byte-same e (Some Z80Space) b key address order = space-byte-same e key.cycle (z80_address address) (granted b.request b.store) b order
byte-same e (Some InputOutput) b key address order = register-same e b key.cycle (register_at address)
byte-same e (Some BusRequest) b key address order = refl
byte-same e (Some Z80Reset) b key address order = refl
byte-same e (Some VideoPorts) b key address order = ap (half_at address) ((unseen e key.cycle b.vdp order).word (port_at address))

word-same : (e : ℕ) (area : Option Area) (b : Board) (key : Key) (address : ℕ) → e ≤ key.cycle → word_at area (settled_board e b) key address ≡ word_at area b key address
unfolding word_in
word-same e None b key address order = refl
word-same e (Some Z80Space) b key address order = ap (λ (n : ℕ). n * 0x101) (space-byte-same e key.cycle (z80_address address) (granted b.request b.store) b order)
word-same e (Some InputOutput) b key address order = ap (λ (n : ℕ). n * 0x101) (register-same e b key.cycle (register_at address))
word-same e (Some BusRequest) b key address order = refl
word-same e (Some Z80Reset) b key address order = refl
word-same e (Some VideoPorts) b key address order = (unseen e key.cycle b.vdp order).word (port_at address)

transfer-same : (e : ℕ) (area : Option Area) (b : Board) (key : Key) (address word : ℕ) → e ≤ key.cycle
    → transfer_at area (settled_board e b) key address word ≡ transfer_at area b key address word
unfolding transfer_in
transfer-same e None b key address word order = refl
transfer-same e (Some Z80Space) b key address word order = refl
transfer-same e (Some InputOutput) b key address word order = refl
transfer-same e (Some BusRequest) b key address word order = refl
transfer-same e (Some Z80Reset) b key address word order = refl
transfer-same e (Some VideoPorts) b key address word order = (unseen e key.cycle b.vdp order).transfer (port_at address) word

value-same : (e : ℕ) (b : Board) (key : Key) (request : Request68) → e ≤ key.cycle → main_value (settled_board e b) key request ≡ main_value b key request
unfolding main_value
value-same e b key (Read8 address) order = byte-same e (area_of address) b key address order
value-same e b key (Read16 address) order = word-same e (area_of address) b key address order
value-same e b key (Write8 address value) order = refl
value-same e b key (Write16 address value) order = refl
value-same e b key (Ack level) order = refl
value-same e b key (Word value) order = refl

started-same : (e : ℕ) (b : Board) (key : Key) (request : Request68) → e ≤ key.cycle → main_transfer (settled_board e b) key request ≡ main_transfer b key request
unfolding main_transfer
started-same e b key (Read8 address) order = refl
started-same e b key (Read16 address) order = refl
started-same e b key (Write8 address value) order = transfer-same e (area_of address) b key address (both_halves value) order
started-same e b key (Write16 address value) order = transfer-same e (area_of address) b key address value order
started-same e b key (Ack level) order = refl
started-same e b key (Word value) order = refl

cost-same : (e : ℕ) (b : Board) (key : Key) (request : Request68) → e ≤ key.cycle → main_cost (settled_board e b) key request ≡ main_cost b key request
unfolding main_cost
cost-same e b key (Read8 address) order = refl
cost-same e b key (Read16 address) order = refl
cost-same e b key (Write8 address value) order = refl
cost-same e b key (Write16 address value) order = refl
cost-same e b key (Ack level) order = refl
cost-same e b key (Word value) order = (unseen e key.cycle b.vdp order).cost

pub answer-same : (e : ℕ) (b : Board) (key : Key) (request : Request68) → e ≤ key.cycle → main_answer (settled_board e b) key request ≡ main_answer b key request
unfolding main_answer
answer-same e b key request order =
    λ i. record { value = value-same e b key request order i; transfer = started-same e b key request order i; cost = cost-same e b key request order i }

pub reported-same : (e : ℕ) (b : Board) (key : Key) (request : Request68) → e ≤ key.cycle → main_reported (settled_board e b) key request ≡ main_reported b key request
unfolding main_reported
reported-same e b key request order = ap₂ (λ (value a : ℕ). main_entry key request value a) (value-same e b key request order) (address-stays e b.vdp)

-- ---- the 68000: what it leaves

space-read-same : (e c at : ℕ) (store : Option Store) (b : Board) → e ≤ c → settled_board e (space_read store (settled_board e b) c at) ≡ settled_board e (space_read store b c at)
space-read-same e c at None b order = again e b
space-read-same e c at (Some store) b order = chip-read-same e c at b order

read-same : (e : ℕ) (area : Option Area) (b : Board) (key : Key) (address : ℕ) → e ≤ key.cycle
    → settled_board e (read_at area (settled_board e b) key address) ≡ settled_board e (read_at area b key address)
unfolding read_in
read-same e None b key address order = again e b
read-same e (Some Z80Space) b key address order = space-read-same e key.cycle (z80_address address) (granted b.request b.store) b order
read-same e (Some InputOutput) b key address order = again e b
read-same e (Some BusRequest) b key address order = again e b
read-same e (Some Z80Reset) b key address order = again e b
read-same e (Some VideoPorts) b key address order = with-vdp e b _ _ (port_read-same e key.cycle (port_at address) b.vdp order)

space-written-same : (e : ℕ) (store : Option Store) (b : Board) (key : Key) (at value : ℕ) → e ≤ key.cycle
    → settled_board e (space_written store (settled_board e b) key at value) ≡ settled_board e (space_written store b key at value)
space-written-same e None b key at value order = again e b
space-written-same e (Some store) b key at value order =
    if-boards e (is_psg80 at) _ _ _ _ (psg-same e b key value) (
    if-boards e (is_fm at) _ _ _ _ (fm-same e b key at value order)
    (ap (λ (x : Board). record x { store = Some (store_written store at value) }) (again e b)))

register-written-same : (e : ℕ) (b : Board) (cycle : ℕ) (register : Register) (value : ℕ) → settled_board e (register_written (settled_board e b) cycle register value) ≡ settled_board e (register_written b cycle register value)
unfolding register_written
register-written-same e b cycle Version value = again e b
register-written-same e b cycle Data1 value = ap (λ (x : Board). record x { port1 = value_written cycle value b.port1 }) (again e b)
register-written-same e b cycle Data2 value = ap (λ (x : Board). record x { port2 = value_written cycle value b.port2 }) (again e b)
register-written-same e b cycle DataExpansion value = again e b
register-written-same e b cycle Control1 value = ap (λ (x : Board). record x { port1 = control_written cycle value b.port1 }) (again e b)
register-written-same e b cycle Control2 value = ap (λ (x : Board). record x { port2 = control_written cycle value b.port2 }) (again e b)
register-written-same e b cycle Unused value = again e b

reset-written-same : (e : ℕ) (b : Board) (key : Key) (bit : ℕ) → settled_board e (reset_written (settled_board e b) key bit) ≡ settled_board e (reset_written b key bit)
unfolding reset
reset-written-same e b key bit =
    if-boards e (bit == 0) _ _ _ _
    (ap (λ (v : Vdp). record b { vdp = v; fm = settled_port e (reset key b.fm); reset = true; resets = counted b.resets }) (vdp-again e b.vdp))
    (ap (λ (x : Board). record x { reset = false }) (again e b))

requested-same : (e : ℕ) (b : Board) (bit : ℕ) → settled_board e (requested (settled_board e b) bit) ≡ settled_board e (requested b bit)
requested-same e b bit = ap (λ (x : Board). record x { request = bit == 1 }) (again e b)

video-byte-same : (e : ℕ) (port : VideoPort) (b : Board) (key : Key) (address value : ℕ) → e ≤ key.cycle
    → settled_board e (video_byte_written port (settled_board e b) key address value) ≡ settled_board e (video_byte_written port b key address value)
unfolding video_byte_written
video-byte-same e Data b key address value order = with-vdp e b _ _ (port_written-same e key.cycle (both_halves value) Data b.vdp order)
video-byte-same e Control b key address value order = with-vdp e b _ _ (port_written-same e key.cycle (both_halves value) Control b.vdp order)
video-byte-same e Counter b key address value order = with-vdp e b _ _ (port_written-same e key.cycle (both_halves value) Counter b.vdp order)
video-byte-same e Sound b key address value order = if-boards e (address % 2 == 1) _ _ _ _ (psg-same e b key value) (again e b)
video-byte-same e NoPort b key address value order = with-vdp e b _ _ (port_written-same e key.cycle (both_halves value) NoPort b.vdp order)

video-word-same : (e : ℕ) (port : VideoPort) (b : Board) (key : Key) (value : ℕ) → e ≤ key.cycle
    → settled_board e (video_word_written port (settled_board e b) key value) ≡ settled_board e (video_word_written port b key value)
unfolding video_word_written
video-word-same e Data b key value order = with-vdp e b _ _ (port_written-same e key.cycle value Data b.vdp order)
video-word-same e Control b key value order = with-vdp e b _ _ (port_written-same e key.cycle value Control b.vdp order)
video-word-same e Counter b key value order = with-vdp e b _ _ (port_written-same e key.cycle value Counter b.vdp order)
video-word-same e Sound b key value order = psg-same e b key (value % 0x100)
video-word-same e NoPort b key value order = with-vdp e b _ _ (port_written-same e key.cycle value NoPort b.vdp order)

byte-written-same : (e : ℕ) (area : Option Area) (b : Board) (key : Key) (address value : ℕ) → e ≤ key.cycle
    → settled_board e (byte_written_at area (settled_board e b) key address value) ≡ settled_board e (byte_written_at area b key address value)
unfolding byte_written_in
byte-written-same e None b key address value order = again e b
byte-written-same e (Some Z80Space) b key address value order = space-written-same e (granted b.request b.store) b key (z80_address address) value order
byte-written-same e (Some InputOutput) b key address value order = register-written-same e b key.cycle (register_at address) (value % 0x100)
byte-written-same e (Some BusRequest) b key address value order = if-boards e (address % 2 == 0) _ _ _ _ (requested-same e b (value % 2)) (again e b)
byte-written-same e (Some Z80Reset) b key address value order = if-boards e (address % 2 == 0) _ _ _ _ (reset-written-same e b key (value % 2)) (again e b)
byte-written-same e (Some VideoPorts) b key address value order = video-byte-same e (port_at address) b key address value order

word-written-same : (e : ℕ) (area : Option Area) (b : Board) (key : Key) (address value : ℕ) → e ≤ key.cycle
    → settled_board e (word_written_at area (settled_board e b) key address value) ≡ settled_board e (word_written_at area b key address value)
unfolding word_written_in
word-written-same e None b key address value order = again e b
word-written-same e (Some Z80Space) b key address value order = space-written-same e (granted b.request b.store) b key (z80_address address) (value / 0x100) order
word-written-same e (Some InputOutput) b key address value order = register-written-same e b key.cycle (register_at address) (value % 0x100)
word-written-same e (Some BusRequest) b key address value order = requested-same e b (value / 0x100 % 2)
word-written-same e (Some Z80Reset) b key address value order = reset-written-same e b key (value / 0x100 % 2)
word-written-same e (Some VideoPorts) b key address value order = video-word-same e (port_at address) b key value order

pub main-same : (e : ℕ) (b : Board) (key : Key) (request : Request68) → e ≤ key.cycle
    → settled_board e (main_board (settled_board e b) key request) ≡ settled_board e (main_board b key request)
unfolding main_board
main-same e b key (Read8 address) order = read-same e (area_of address) b key address order
main-same e b key (Read16 address) order = read-same e (area_of address) b key address order
main-same e b key (Write8 address value) order = byte-written-same e (area_of address) b key address value order
main-same e b key (Write16 address value) order = word-written-same e (area_of address) b key address value order
main-same e b key (Ack level) order = with-vdp e b _ _ ((unseen e e b.vdp (le_refl e)).after_acknowledge level)
main-same e b key (Word value) order = with-vdp e b _ _ (ap (λ (v : Vdp). settled e (transferred value v)) (settled_twice e key.cycle b.vdp order))

-- ---- the Z80

pub sub-pins-same : (e : ℕ) (b : Board) → sub_pins (settled_board e b) ≡ sub_pins b
sub-pins-same e b =
    let same = (unseen e e b.vdp (le_refl e)).pins.interval_stays in
    ap₂ (λ (from to : ℕ). record { request = b.request; reset = b.reset; resets = b.resets; int_from = from; int_to = to }) same.from_stays same.to_stays

-- what is reported to it, its entry, and the board
pub record IsSame (e : ℕ) (s t : SubOutcome) : Type 0 where
  pub answer : s.answer ≡ t.answer
  pub entry : s.entry ≡ t.entry
  pub board : settled_board e s.board ≡ settled_board e t.board

yielded-same : (e : ℕ) (request : Bool) (b : Board) (key : Key) (store : Store) → IsSame e (yielded request (settled_board e b) key store) (yielded request b key store)
yielded-same e true b key store = record { answer = refl; entry = refl; board = ap (λ (x : Board). record x { store = Some store }) (again e b) }
yielded-same e false b key store = record { answer = refl; entry = refl; board = again e b }

taken-same : (e : ℕ) (request : Bool) (store : Option Store) (b : Board) (key : Key) → IsSame e (taken_back request store (settled_board e b) key) (taken_back request store b key)
taken-same e true store b key = record { answer = refl; entry = refl; board = again e b }
taken-same e false None b key = record { answer = refl; entry = refl; board = again e b }
taken-same e false (Some store) b key = record { answer = refl; entry = refl; board = ap (λ (x : Board). record x { store = None }) (again e b) }

pub sub-same : (e : ℕ) (b : Board) (key : Key) (request : RequestValue80) → e ≤ key.cycle → IsSame e (sub_access (settled_board e b) key request) (sub_access b key request)
unfolding sub_access
sub-same e b key (ReadByte at) order = record {
  answer = ap Byte (chip-byte-same e key.cycle at b order);
  entry = ap (sub_entry key 6 at) (chip-byte-same e key.cycle at b order);
  board = chip-read-same e key.cycle at b order;
}
sub-same e b key (WriteByte at value) order = record {
  answer = refl;
  entry = refl;
  board = if-boards e (is_psg80 at) _ _ _ _ (psg-same e b key value) (if-boards e (is_fm at) _ _ _ _ (fm-same e b key at value order) (again e b));
}
sub-same e b key (HandOver store) order = yielded-same e b.request b key store
sub-same e b key TakeBack order = taken-same e b.request b.store b key

-- ---- lines and batches

vdp-in : (b : Bool) (p q : Board) (v : Vdp) → p.vdp ≡ v → q.vdp ≡ v → (if b then p else q).vdp ≡ v
vdp-in true p q v first second = first
vdp-in false p q v first second = second

line-vdp : (b : Board) (c : ℕ) (note : SpriteNote) → (line_board b c note).vdp ≡ line_begun c note b.vdp
unfolding line_board pads_board
line-vdp b c note =
    let pal = (video_started b c note).vdp.pal in
    vdp-in (c % frame_cycles pal == finished_at pal) _ _ _ refl refl

-- the VDP as the event of a line leaves it
pub line-vdp-same : (e c : ℕ) (b : Board) (note : SpriteNote) → e ≤ c → (line_board (settled_board e b) c note).vdp ≡ (line_board b c note).vdp
line-vdp-same e c b note order =
    line-vdp (settled_board e b) c note ∙ (unseen e c b.vdp order).after_line note ∙ sym (line-vdp b c note)

-- the pads at the start of a line of a region
abbrev pads_in : Bool → Board → ℕ → Board
pads_in pal board cycle =
    if cycle % frame_cycles pal == finished_at pal then record board { pads = pads_of board.recording (cycle / frame_cycles pal) } else board

pub line-same : (e c : ℕ) (b : Board) (note : SpriteNote) → e ≤ c → settled_board e (line_board (settled_board e b) c note) ≡ settled_board e (line_board b c note)
unfolding line_board pads_board
line-same e c b note order =
    let begun : line_begun c note (settled e b.vdp) ≡ line_begun c note b.vdp = (unseen e c b.vdp order).after_line note in
    let video : settled e (line_begun c note (settled e b.vdp)) ≡ settled e (line_begun c note b.vdp) = ap (settled e) begun in
    let pal = (line_begun c note b.vdp).pal in
    ap (λ (region : Bool). settled_board e (pads_in region (video_started (settled_board e b) c note) c)) (ap (λ (v : Vdp). v.pal) begun)
    ∙ if-boards e (c % frame_cycles pal == finished_at pal) _ _ _ _
    (ap₂ (λ (v : Vdp) (p : Port). record b { pads = pads_of b.recording (c / frame_cycles pal); vdp = v; fm = p }) video (port-again e b.fm))
    (with-vdp e b _ _ video)

pub fm-batch-same : (e c : ℕ) (b : Board) → settled_board e (fm_board (settled_board e b) c) ≡ settled_board e (fm_board b c)
unfolding fm_board
fm-batch-same e c b =
    ap₂ (λ (v : Vdp) (p : Port). record b { vdp = v; fm = record p { writes = fm_left_from c b.fm.writes } }) (vdp-again e b.vdp) (port-again e b.fm)

pub psg-batch-same : (e c : ℕ) (b : Board) → settled_board e (psg_board (settled_board e b) c) ≡ settled_board e (psg_board b c)
unfolding psg_board
psg-batch-same e c b = ap (λ (x : Board). record x { psg = left_from c b.psg }) (again e b)
