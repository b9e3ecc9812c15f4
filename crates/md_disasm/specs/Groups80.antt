-- The instructions of the Z80 in groups, of which one function takes each.
use Rattle.z80_decode.specs.declared.op80.Op80.{Op80}
use Rattle.z80_decode.specs.declared.op80.Op80.TheVariants as ops

-- loads of bytes and of pairs
abbrev pub IsLoad : Op80 → Type 0
IsLoad (ops.Load _ _) = Unit {0}
IsLoad (ops.LoadFromSpecial _) = Unit {0}
IsLoad (ops.LoadToSpecial _) = Unit {0}
IsLoad (ops.LoadPair _ _) = Unit {0}
IsLoad (ops.LoadIndex _ _) = Unit {0}
IsLoad (ops.LoadPairExtended _ _) = Unit {0}
IsLoad (ops.StoreIndex _ _) = Unit {0}
IsLoad (ops.StorePairExtended _ _) = Unit {0}
IsLoad (ops.LoadStackPointer _) = Unit {0}
IsLoad (ops.Push _) = Unit {0}
IsLoad (ops.Pop _) = Unit {0}
IsLoad _ = ⊥

-- exchanges, and the instructions that go on over a block
abbrev pub IsExchange : Op80 → Type 0
IsExchange ops.ExchangeDeHl = Unit {0}
IsExchange ops.ExchangeAf = Unit {0}
IsExchange ops.ExchangeAll = Unit {0}
IsExchange (ops.ExchangeStack _) = Unit {0}
IsExchange (ops.BlockLoad _) = Unit {0}
IsExchange (ops.BlockCompare _) = Unit {0}
IsExchange (ops.BlockInput _) = Unit {0}
IsExchange (ops.BlockOutput _) = Unit {0}
IsExchange _ = ⊥

-- operations on bytes and on pairs
abbrev pub IsSum : Op80 → Type 0
IsSum (ops.Arithmetic _ _) = Unit {0}
IsSum (ops.Step _ _) = Unit {0}
IsSum (ops.Accumulator _) = Unit {0}
IsSum ops.Negate = Unit {0}
IsSum (ops.AddPair _ _) = Unit {0}
IsSum (ops.AddPairWithCarry _) = Unit {0}
IsSum (ops.SubtractPairWithCarry _) = Unit {0}
IsSum (ops.IncrementPair _) = Unit {0}
IsSum (ops.DecrementPair _) = Unit {0}
IsSum (ops.Change _ _) = Unit {0}
IsSum (ops.TestBit _ _) = Unit {0}
IsSum ops.RotateDigitsLeft = Unit {0}
IsSum ops.RotateDigitsRight = Unit {0}
IsSum _ = ⊥

-- jumps, calls and returns, at an address
abbrev pub IsJump : Op80 → Type 0
IsJump (ops.Jump _) = Unit {0}
IsJump (ops.JumpIf _ _) = Unit {0}
IsJump (ops.JumpRelative _) = Unit {0}
IsJump (ops.JumpRelativeIf _ _) = Unit {0}
IsJump (ops.JumpIndex _) = Unit {0}
IsJump (ops.DecrementAndJump _) = Unit {0}
IsJump (ops.Call _) = Unit {0}
IsJump (ops.CallIf _ _) = Unit {0}
IsJump ops.Return = Unit {0}
IsJump (ops.ReturnIf _) = Unit {0}
IsJump ops.ReturnFromInterrupt = Unit {0}
IsJump ops.ReturnFromNonMaskable = Unit {0}
IsJump (ops.Restart _) = Unit {0}
IsJump _ = ⊥

-- instructions on the processor and on ports, and what is no instruction
abbrev pub IsControl : Op80 → Type 0
IsControl ops.Nop = Unit {0}
IsControl ops.Halt = Unit {0}
IsControl ops.DisableInterrupts = Unit {0}
IsControl ops.EnableInterrupts = Unit {0}
IsControl (ops.SetInterruptMode _) = Unit {0}
IsControl (ops.InputAtNumber _) = Unit {0}
IsControl (ops.Input _) = Unit {0}
IsControl (ops.OutputAtNumber _) = Unit {0}
IsControl (ops.Output _) = Unit {0}
IsControl (ops.LonePrefix _) = Unit {0}
IsControl (ops.Undefined _) = Unit {0}
IsControl _ = ⊥
