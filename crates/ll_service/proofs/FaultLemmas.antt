-- A fault of a connection that is handed on.
use Rattle.std.proofs.Common.{◌≡◌, Result, Ok, Err, sym, subst}
use Rattle.std.specs.Result.{IsErrAnd}
use Rattle.ll_service.specs.Faults.{IsOwn}
use Rattle.ll_service.specs.declared.fault.LinkFault.{LinkFault}
use Rattle.ll_service.specs.declared.fault.LinkFault.TheVariants.{Read, Write, Hub, Memory, Endless}

same-own : (A B : Type 0) (fault : LinkFault) → IsOwn {A = A} (Err fault) → IsOwn {A = B} (Err fault)
same-own A B Read h = h
same-own A B Write h = h
same-own A B Hub h = h
same-own A B Memory h = h
same-own A B Endless h = h

handed-on : (A B : Type 0) (result : Result B LinkFault) (fault : LinkFault) → IsOwn {A = A} (Err fault) → IsErrAnd result (λ f. f ≡ fault) → IsOwn {A = B} result
handed-on A B (Ok x) fault h is = absurd is
handed-on A B (Err f) fault h is = subst (λ (x : LinkFault). IsOwn {A = B} (Err x)) (sym is) (same-own A B fault h)

pub own-again : {A B : Type 0} (given : Result A LinkFault) (result : Result B LinkFault) (fault : LinkFault) → IsOwn given → given ≡ Err fault → IsErrAnd result (λ f. f ≡ fault)
    → IsOwn result
own-again {A = A} {B = B} given result fault own is same = handed-on A B result fault (subst IsOwn is own) same
