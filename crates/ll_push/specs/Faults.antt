-- Why not all of an encoder's bytes are published.
use Rattle.std.specs.Prelude.{ℕ, ◌-◌, ◌^◌, ⊤}
use Rattle.ll_mp4.specs.declared.fault.StreamFault.{StreamFault}
use Rattle.ll_mp4.specs.declared.fault.StreamFault.TheVariants as input
use Rattle.ll_push.specs.declared.fault.PushFault.{PushFault}
use Rattle.ll_push.specs.declared.fault.PushFault.TheVariants.{Input, Read, Clock, Elsewhere, BadAnswer, Memory, Endless}

-- the fault of an encoder's bytes as one of publishing; `Memory` stays `Memory`
abbrev pub of_input : StreamFault → PushFault
of_input input.Memory = Memory
of_input other = Input other

-- a fault that contracts explain by what was sent on the last connection, and by what came
abbrev pub IsOfConnection : PushFault → Type 0
IsOfConnection (Input fault) = ⊤
IsOfConnection Elsewhere = ⊤
IsOfConnection BadAnswer = ⊤
IsOfConnection other = ⊥

-- a fault of the encoder's bytes, of their reading, of the clock, or of memory
abbrev pub IsOfSource : PushFault → Type 0
IsOfSource (Input fault) = ⊤
IsOfSource Read = ⊤
IsOfSource Clock = ⊤
IsOfSource Memory = ⊤
IsOfSource Endless = ⊤
IsOfSource other = ⊥

-- a fault of the bytes that were read, of the clock, or of memory
abbrev pub IsOfBytes : PushFault → Type 0
IsOfBytes (Input fault) = ⊤
IsOfBytes Clock = ⊤
IsOfBytes Memory = ⊤
IsOfBytes other = ⊥

-- the number of reads, messages or connections after which publishing is Endless
abbrev pub most : ℕ
most = 2 ^ 64 - 1
