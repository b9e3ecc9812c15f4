-- What the Z80 asks of the bus, and what it is answered, without where a parcel's RAM lies in memory.
use Rattle.std.specs.Prelude.{ℕ, ◌<◌, Option, Some, None}
use Rattle.md_word.specs.declared.sub_bus.Answer80.{Answer80}
use Rattle.md_word.specs.declared.sub_bus.Answer80.TheVariants as answers
use Rattle.md_word.specs.declared.sub_bus.Request80.{Request80}
use Rattle.md_word.specs.declared.sub_bus.Request80.TheVariants as requests
use Rattle.z80_parcel.specs.Parcels.{IsStore, Store, store_of}

-- a byte to read, a byte to write, RAM and bank register to yield, or the same to take back
pub data RequestValue80 : Type 0 where
  ReadByte : ℕ → RequestValue80
  WriteByte : ℕ → ℕ → RequestValue80
  HandOver : Store → RequestValue80
  TakeBack : RequestValue80

-- a request, without where a yielded parcel lies
abbrev pub request_value80_of : Request80 → RequestValue80
request_value80_of (requests.Read at) = ReadByte at
request_value80_of (requests.Write at value) = WriteByte at value
request_value80_of (requests.Yield parcel) = HandOver (store_of parcel)
request_value80_of requests.Take = TakeBack

-- the byte that was read, nothing, or RAM and bank register that come back
pub data AnswerValue80 : Type 0 where
  Byte : ℕ → AnswerValue80
  Nothing : AnswerValue80
  Returned : Store → AnswerValue80

-- an answer, without where a returned parcel lies
abbrev pub answer_value80_of : Answer80 → AnswerValue80
answer_value80_of (answers.Value value) = Byte value
answer_value80_of answers.Done = Nothing
answer_value80_of (answers.Back parcel) = Returned (store_of parcel)

-- the value that an answer has; the answer to a write has none
abbrev pub value_in : AnswerValue80 → ℕ
value_in (Byte value) = value
value_in Nothing = 0
value_in (Returned store) = 0

-- what an answer gives back
abbrev pub store_in : AnswerValue80 → Option Store
store_in (Byte value) = None
store_in Nothing = None
store_in (Returned store) = Some store

-- an answer that the board can give to a request: a byte to a read, nothing to a write, and RAM, if
-- any, to a yield and a take
abbrev pub Fits : RequestValue80 → AnswerValue80 → Type 0
Fits (ReadByte at) (Byte value) = value < 0x100
Fits (ReadByte at) Nothing = ⊥
Fits (ReadByte at) (Returned store) = ⊥
Fits (WriteByte at written) (Byte value) = ⊥
Fits (WriteByte at written) Nothing = Unit {0}
Fits (WriteByte at written) (Returned store) = ⊥
Fits (HandOver handed) (Byte value) = ⊥
Fits (HandOver handed) Nothing = Unit {0}
Fits (HandOver handed) (Returned store) = IsStore store
Fits TakeBack (Byte value) = ⊥
Fits TakeBack Nothing = Unit {0}
Fits TakeBack (Returned store) = IsStore store
