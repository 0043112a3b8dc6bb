-- Out of memory: the first lines, which need none, are right.
use Rattle.std.proofs.Common.{◌≡◌, ℕ, ◌+◌, ◌<◌, List, Option, Result, Ok, Err, IfErr, IsErrAnd, ap, codes, sym, subst, ◌∙◌, arith}
use Rattle.std.specs.declared.net.socket_addr.SocketAddr.{SocketAddr}
use Rattle.ll_config.proofs.RightLemmas.{hosted_right, next_if_past, right_then, right_value}
use Rattle.ll_config.specs.Config.{ConfigValue, Left, address_line, all_left, and_then, config_from, config_in, count_line, door_line, files_from, hosted_from, next, next_idle, next_status, nobody, workers_line}
use Rattle.ll_config.specs.Faults.{IsFault, IsRightPast, IsRightTo}
use Rattle.ll_config.specs.declared.config.Files.{Files}
use Rattle.ll_config.specs.declared.door.Door.{Door}
use Rattle.ll_config.specs.declared.fault.ConfigFault.{ConfigFault}
use Rattle.ll_config.specs.declared.fault.ConfigFault.TheVariants.{Memory}

-- the settings, line by line
module _ (a : SocketAddr) (d : Door) (w : ℕ) where
  abbrev pub with_hosted : Files → Option SocketAddr → Option ℕ → Left → Result ConfigValue ℕ
  with_hosted f s i left =
      and_then (hosted_from nobody left.lines left.number)
      (λ h. Ok (record { players = a; publishers = d; workers = w; files = f; status = s; idle = i; hosted = h }))

  abbrev pub with_idle : Files → Option SocketAddr → Left → Result ConfigValue ℕ
  with_idle f s left = and_then (next_idle left) (λ i. with_hosted f s i.0 i.1)

  abbrev pub with_status : Files → Left → Result ConfigValue ℕ
  with_status f left = and_then (next_status left) (λ s. with_idle f s.0 s.1)

  abbrev pub with_files : Left → Result ConfigValue ℕ
  with_files left = and_then (files_from left) (λ f. with_status f.0 f.1)

  hosted-in : (n : ℕ) (f : Files) (s : Option SocketAddr) (i : Option ℕ) (left : Left) → n < left.number → IsRightTo n (with_hosted f s i left)
  hosted-in n f s i left here =
      right_value n (hosted_from nobody left.lines left.number)
      (λ h. record { players = a; publishers = d; workers = w; files = f; status = s; idle = i; hosted = h }) (hosted_right n nobody left.lines left.number here)

  idle-in : (n : ℕ) (f : Files) (s : Option SocketAddr) (left : Left) → n < left.number → IsRightTo n (with_idle f s left)
  idle-in n f s left here =
      right_then n (next_idle left) (λ i. with_hosted f s i.0 i.1) (next_if_past n (codes "idle ") (count_line (codes "idle ") 86400) left here)
      (λ x there. hosted-in n f s x.0 x.1 there)

  status-in : (n : ℕ) (f : Files) (left : Left) → n < left.number → IsRightTo n (with_status f left)
  status-in n f left here =
      right_then n (next_status left) (λ s. with_idle f s.0 s.1) (next_if_past n (codes "status ") (address_line (codes "status ")) left here)
      (λ x there. idle-in n f x.0 x.1 there)

  files-in : (n : ℕ) (left : Left) → IsRightPast n (files_from left) → IsRightTo n (with_files left)
  files-in n left past = right_then n (files_from left) (λ f. with_status f.0 f.1) past (λ x there. status-in n x.0 x.1 there)

  -- the lines that need no memory were right, and these are left
  pub record Head (bytes : List ℕ) (three : Left) : Type 0 where
    pub told : config_in bytes ≡ with_files three
    pub number : three.number ≡ 4

  pub head-is : (bytes : List ℕ) (all one two three : Left) → all ≡ all_left bytes → next (address_line (codes "listen ")) all ≡ Ok (a, one)
      → one.number ≡ all.number + 1 → next door_line one ≡ Ok (d, two) → two.number ≡ one.number + 1 → next workers_line two ≡ Ok (w, three)
      → three.number ≡ two.number + 1 → Head bytes three
  head-is bytes all one two three is ha n hb m hw k =
      let first : all.number ≡ 1 = ap (λ (l : Left). l.number) is in
      record {
        told = ap config_from (sym is)
            ∙ ap (λ r. and_then r (λ a. and_then (next door_line a.1) (λ d. and_then (next workers_line d.1)
            (λ w. and_then (files_from w.1) (λ f. and_then (next_status f.1) (λ s. and_then (next_idle s.1) (λ i. and_then (hosted_from nobody i.1.lines i.1.number)
            (λ h. Ok (record { players = a.0; publishers = d.0; workers = w.0; files = f.0; status = s.0; idle = i.0; hosted = h }))))))))) ha
            ∙ ap (λ r. and_then r (λ d. and_then (next workers_line d.1)
            (λ w. and_then (files_from w.1) (λ f. and_then (next_status f.1) (λ s. and_then (next_idle s.1) (λ i. and_then (hosted_from nobody i.1.lines i.1.number)
            (λ h. Ok (record { players = a; publishers = d.0; workers = w.0; files = f.0; status = s.0; idle = i.0; hosted = h })))))))) hb
            ∙ ap (λ r. and_then r (λ w. and_then (files_from w.1) (λ f. and_then (next_status f.1) (λ s. and_then (next_idle s.1)
            (λ i. and_then (hosted_from nobody i.1.lines i.1.number)
            (λ h. Ok (record { players = a; publishers = d; workers = w.0; files = f.0; status = s.0; idle = i.0; hosted = h }))))))) hw;
        number = omega (arith, first, n, m, k);
      }

later : {A : Type 0} (r : Result A ℕ) → IsRightTo 4 r → IfErr r (λ line. 4 < line)
later (Ok value) h = tt
later (Err bad) h = h

same-fault : {A : Type 0} (r : Result A ConfigFault) (fault wanted : ConfigFault) → IsErrAnd r (λ e. e ≡ fault) → r ≡ Err wanted → fault ≡ wanted
same-fault r fault wanted is e = sym (subst (λ r. IsErrAnd r (λ e. e ≡ fault)) e is)

wanting-of : {A : Type 0} (r : Result A ConfigFault) (fault : ConfigFault) {B : Type 0} (read : Result B ℕ) (wanting : Type 0) → IsErrAnd r (λ e. e ≡ fault) → r ≡ Err Memory
    → IsFault fault read wanting → wanting
wanting-of r fault read wanting is e told = subst (λ f. IsFault f read wanting) (same-fault r fault Memory is e) told

module _ {A : Type 0} (r : Result A ConfigFault) (fault : ConfigFault) (is : IsErrAnd r (λ e. e ≡ fault)) (wants : r ≡ Err Memory) (a : SocketAddr) (d : Door) (w : ℕ) where
  pub files-memory : (bytes : List ℕ) (three : Left) → Head a d w bytes three → IsFault fault (files_from three) (IsRightPast three.number (files_from three))
      → IfErr (config_in bytes) (λ line. 4 < line)
  files-memory bytes three head told =
      later (config_in bytes) (subst (IsRightTo 4) (sym head.told) (files-in a d w 4 three
      (subst (λ n. IsRightPast n (files_from three)) head.number (wanting-of r fault (files_from three) (IsRightPast three.number (files_from three)) is wants told))))
