-- Why a channel refuses a reading or a request.
use Rattle.std.proofs.Common.{◌≡◌, ◌≤◌, ◌<◌, ◌^◌, ℕ, true, false, Result, Ok, Err, refl}
use Rattle.std.specs.Prelude.{IfErr, IsErrOf}
use Rattle.ll_record.specs.Recording.{Recording}
use Rattle.ll_verdict.specs.declared.fault.ClockFault.{ClockFault}
use Rattle.ll_verdict.specs.declared.fault.ClockFault.TheVariants as reading
use Rattle.ll_verdict.specs.declared.fault.AskFault.{AskFault}
use Rattle.ll_verdict.specs.declared.fault.AskFault.TheVariants as unasked
use Rattle.ll_hub_channel.specs.Section.{is_filled}
use Rattle.ll_hub_channel.specs.Told.{IsAskRefused, IsReadingRefused}

-- a reading that is refused
pub why : {T : Type 0} (r : Recording) (ms : ℕ) (told : Result T ClockFault) → (IsErrOf told reading.ClockRange → 2 ^ 60 < ms)
    → (IsErrOf told reading.RecordFull → (ms ≤ 2 ^ 60) × (is_filled r ≡ true)) → (IsErrOf told reading.Memory → (ms ≤ 2 ^ 60) × (is_filled r ≡ false))
    → IfErr told (λ f. IsReadingRefused (is_filled r) ms f)
why r ms (Ok done) range full memory = tt
why r ms (Err reading.ClockRange) range full memory = range refl
why r ms (Err reading.RecordFull) range full memory = full refl
why r ms (Err reading.Memory) range full memory = memory refl

-- a request that is refused
pub request-fault : {T : Type 0} (r : Recording) (f : AskFault) → (IsErrOf {T = T} (Err f) unasked.RecordFull → is_filled r ≡ true)
    → (IsErrOf {T = T} (Err f) unasked.Memory → is_filled r ≡ false) → IsAskRefused (is_filled r) f
request-fault r unasked.RecordFull full memory = full refl
request-fault r unasked.Memory full memory = memory refl
