-- A publisher's connection while it is served: what an answered line adds, and what the bytes of a read add.
use Rattle.std.proofs.Common.{◌≡◌, ℕ, ◌+◌, List, [], ◌∷◌, ◌++◌, Option, Some, None, Result, append-nil, append_assoc, refl, ap, sym, ◌∙◌, subst, Ok, Err, OnErr}
use Rattle.std.proofs.KnownBytes.{Appends-nil, Appends-trans}
use Rattle.std.proofs.lemmas.List.{map-append}
use Rattle.std.proofs.lemmas.List.Concat.{flat_map-append}
use Rattle.std.proofs.lemmas.List.Sums.{fold-append}
use Rattle.std.specs.Io.KnownBytes.{Appends}
use Rattle.ll_device.proofs.WriteLemmas.{AppendsPrefix-after}
use Rattle.ll_device.specs.Inward.{Inward, looked_at}
use Rattle.ll_device.specs.Written.{AppendsPrefix}
use Rattle.ll_history.proofs.PrefixLemmas.{prefix-self}
use Rattle.ll_history.specs.declared.deed.Logged.{Logged}
use Rattle.ll_hub.specs.Calls.{HasSeen}
use Rattle.ll_hub.specs.Passes.{PassValue}
use Rattle.ll_publish.proofs.StreamLaws.{none_is_left, whole_streams}
use Rattle.ll_publish.specs.Line.{Line}
use Rattle.ll_publish.specs.Lines.{FeedValue, fresh, front, lines, lines_in, with_bytes}
use Rattle.ll_publish.specs.Past.{Call, Take, Next, and_line, before_any, called, past}
use Rattle.ll_publish.specs.Refusals.{reply_line}
use Rattle.ll_publish.specs.declared.refusal.Refusal.{Refusal}
use Rattle.ll_publish.specs.declared.success.Success.{Success}
use Rattle.ll_service.proofs.ReadLemmas.{read-no_more, read-then}
use Rattle.ll_publisher.specs.Doors.{Origin}
use Rattle.ll_publisher.specs.Publishing.{AreRight, Caller, Exchange, IsCutOff, IsServed, IsTold, after_all, after_exchange, caller, caller_after, lines_of, newcomer, replies_of}
use Rattle.ll_publisher.specs.Serving.{IsBroken, IsDrained, IsServing}

-- a pass has seen what it has seen
seen-same : (before after : PassValue) → after ≡ before → HasSeen before after
seen-same before after is = subst (HasSeen before) (sym is) (record { same = refl; grows = prefix-self before.history })

-- one call more
past-more : (calls : List Call) (call : Call) → past (calls ++ call ∷ []) ≡ called (past calls) call
past-more calls call = fold-append called before_any calls (call ∷ [])

-- one exchange more
abbrev exchange : Line → Result Success Refusal → List Logged → Exchange
exchange line reply history = record { line = line; reply = reply; history = history }

replies-more : (es : List Exchange) (line : Line) (reply : Result Success Refusal) (history : List Logged) → replies_of (es ++ exchange line reply history ∷ []) ≡ replies_of es ++ reply_line reply
replies-more es line reply history =
    flat_map-append (λ (e : Exchange). reply_line e.reply) es (exchange line reply history ∷ []) ∙ ap (λ text. replies_of es ++ text) (append-nil (reply_line reply))

lines-more : (es : List Exchange) (line : Line) (reply : Result Success Refusal) (history : List Logged) → lines_of (es ++ exchange line reply history ∷ []) ≡ lines_of es ++ line ∷ []
lines-more es line reply history = map-append (λ (e : Exchange). e.line) es (exchange line reply history ∷ [])

-- the connection remembers one exchange more
remembered-more : (o : Origin) (start : Caller) (es : List Exchange) (line : Line) (reply : Result Success Refusal) (history : List Logged)
    → after_all o start (es ++ exchange line reply history ∷ []) ≡ caller_after o line reply history (after_all o start es)
remembered-more o start es line reply history = fold-append (after_exchange o) start es (exchange line reply history ∷ [])

-- a line with an allowed answer, after the others
right-more : (o : Origin) (start : Caller) (es : List Exchange) (line : Line) (reply : Result Success Refusal) (history : List Logged)
    → AreRight o start es → IsTold o (after_all o start es) history line reply → AreRight o start (es ++ exchange line reply history ∷ [])
right-more o start [] line reply history all one = (one, tt)
right-more o start (e ∷ more) line reply history all one = (all.0, right-more o (after_exchange o start e) more line reply history all.1 one)

-- nothing came yet
pub serving-none : (o : Origin) (feed : FeedValue) (start : Caller) (base : Option (List ℕ)) → feed ≡ fresh
    → IsServing o [] feed start start base base
serving-none o feed start base e = record {
  calls = [];
  bytes = refl;
  kept = sym e;
  exchanges = [];
  given = refl;
  right = tt;
  remembered = refl;
  sent = Appends-nil base;
}

-- a line is answered
pub serving-more : (o : Origin) (taken : List ℕ) (feed after : FeedValue) (start caller now : Caller) (base mid written : Option (List ℕ)) (line : Line)
    (reply : Result Success Refusal) (history : List Logged)
    → IsServing o taken feed start caller base mid → (front feed).0 ≡ Some line → after ≡ (front feed).1 → IsTold o caller history line reply
    → now ≡ caller_after o line reply history caller → Appends mid written (reply_line reply) → IsServing o taken after start now base written
serving-more o taken feed after start caller now base mid written line reply history s told rest right remembered sent =
    let more = past-more s.calls Next in
    record {
      calls = s.calls ++ Next ∷ [];
      bytes = ap (λ p. p.taken) more ∙ s.bytes;
      kept = ap (λ p. p.feed) more ∙ ap (λ f. (front f).1) s.kept ∙ sym rest;
      exchanges = s.exchanges ++ exchange line reply history ∷ [];
      given =
          ap (λ p. p.given) more ∙ ap (and_line (past s.calls).given) (ap (λ f. (front f).0) s.kept ∙ told) ∙ ap (λ ls. ls ++ line ∷ []) s.given
          ∙ sym (lines-more s.exchanges line reply history);
      right = right-more o start s.exchanges line reply history s.right (subst (λ c. IsTold o c history line reply) s.remembered right);
      remembered = remembered ∙ ap (caller_after o line reply history) s.remembered ∙ sym (remembered-more o start s.exchanges line reply history);
      sent = subst (Appends base written) (sym (replies-more s.exchanges line reply history)) (Appends-trans base mid written (replies_of s.exchanges) (reply_line reply) s.sent sent);
    }

-- a line without an answer, because the hub ended the connection
pub broken-untold : (o : Origin) (taken : List ℕ) (feed : FeedValue) (start caller : Caller) (now : PassValue) (base written : Option (List ℕ)) (line : Line)
    → IsServing o taken feed start caller base written → (front feed).0 ≡ Some line → HasSeen caller.pass now → IsBroken o taken start now base written
broken-untold o taken feed start caller now base written line s told seen =
    let more = past-more s.calls Next in
    record {
      calls = s.calls ++ Next ∷ [];
      bytes = ap (λ p. p.taken) more ∙ s.bytes;
      exchanges = s.exchanges;
      later = line ∷ [];
      given = ap (λ p. p.given) more ∙ ap (and_line (past s.calls).given) (ap (λ f. (front f).0) s.kept ∙ told) ∙ ap (λ ls. ls ++ line ∷ []) s.given;
      right = s.right;
      passed = subst (λ (c : Caller). HasSeen c.pass now) s.remembered seen;
      sent = (replies_of s.exchanges, [], sym (append-nil (replies_of s.exchanges)), s.sent);
    }

-- a line of whose answer a prefix was sent
pub broken-told : (o : Origin) (taken : List ℕ) (feed : FeedValue) (start caller : Caller) (now : PassValue) (base mid written : Option (List ℕ)) (line : Line)
    (reply : Result Success Refusal) (history : List Logged)
    → IsServing o taken feed start caller base mid → (front feed).0 ≡ Some line → IsTold o caller history line reply → now ≡ (caller_after o line reply history caller).pass
    → AppendsPrefix mid written (reply_line reply) → IsBroken o taken start now base written
broken-told o taken feed start caller now base mid written line reply history s told right passed sent =
    let more = past-more s.calls Next in
    record {
      calls = s.calls ++ Next ∷ [];
      bytes = ap (λ p. p.taken) more ∙ s.bytes;
      exchanges = s.exchanges ++ exchange line reply history ∷ [];
      later = [];
      given =
          ap (λ p. p.given) more ∙ ap (and_line (past s.calls).given) (ap (λ f. (front f).0) s.kept ∙ told) ∙ ap (λ ls. ls ++ line ∷ []) s.given
          ∙ sym (lines-more s.exchanges line reply history) ∙ sym (append-nil (lines_of (s.exchanges ++ exchange line reply history ∷ [])));
      right = right-more o start s.exchanges line reply history s.right (subst (λ c. IsTold o c history line reply) s.remembered right);
      passed = seen-same _ _ (
          passed ∙ ap (λ (c : Caller). (caller_after o line reply history c).pass) s.remembered
          ∙ ap (λ (c : Caller). c.pass) (sym (remembered-more o start s.exchanges line reply history)));
      sent =
          AppendsPrefix-after base mid written (replies_of s.exchanges) (reply_line reply) (replies_of (s.exchanges ++ exchange line reply history ∷ []))
          (replies-more s.exchanges line reply history) s.sent sent;
    }

-- no whole line is left
pub serving-drained : (o : Origin) (taken : List ℕ) (feed after : FeedValue) (start caller : Caller) (base written : Option (List ℕ))
    → IsServing o taken feed start caller base written → (front feed).0 ≡ None → after ≡ (front feed).1 → IsDrained o taken after start caller base written
serving-drained o taken feed after start caller base written s told rest =
    let more = past-more s.calls Next in
    record {
      serving = record {
        calls = s.calls ++ Next ∷ [];
        bytes = ap (λ p. p.taken) more ∙ s.bytes;
        kept = ap (λ p. p.feed) more ∙ ap (λ f. (front f).1) s.kept ∙ sym rest;
        exchanges = s.exchanges;
        given = ap (λ p. p.given) more ∙ ap (and_line (past s.calls).given) (ap (λ f. (front f).0) s.kept ∙ told) ∙ s.given;
        right = s.right;
        remembered = s.remembered;
        sent = s.sent;
      };
      none = ap lines_in rest ∙ none_is_left feed told;
    }

-- more bytes came
pub serving-fed : (o : Origin) (taken piece : List ℕ) (feed after : FeedValue) (start caller : Caller) (base written : Option (List ℕ))
    → IsServing o taken feed start caller base written → after ≡ with_bytes feed piece → IsServing o (taken ++ piece) after start caller base written
serving-fed o taken piece feed after start caller base written s fed =
    let more = past-more s.calls (Take piece) in
    record {
      calls = s.calls ++ Take piece ∷ [];
      bytes = ap (λ p. p.taken) more ∙ ap (λ bytes. bytes ++ piece) s.bytes;
      kept = ap (λ p. p.feed) more ∙ ap (λ f. with_bytes f piece) s.kept ∙ sym fed;
      exchanges = s.exchanges;
      given = ap (λ p. p.given) more ∙ s.given;
      right = s.right;
      remembered = s.remembered;
      sent = s.sent;
    }

-- if nothing was written meanwhile
pub drained-at : (o : Origin) (taken : List ℕ) (feed : FeedValue) (start caller : Caller) (base mid written : Option (List ℕ))
    → IsDrained o taken feed start caller base mid → written ≡ mid → IsDrained o taken feed start caller base written
drained-at o taken feed start caller base mid written d same = subst (IsDrained o taken feed start caller base) (sym same) d

drained-none : (o : Origin) (feed : FeedValue) (start : Caller) (base : Option (List ℕ)) → feed ≡ fresh → IsDrained o [] feed start start base base
drained-none o feed start base e = record { serving = serving-none o feed start base e; none = ap lines_in e }

-- no channel is open yet
pub drained-first : (o : Origin) (feed : FeedValue) (pass : PassValue) (opened : List ℕ) (base : Option (List ℕ)) → feed ≡ fresh → opened ≡ []
    → IsDrained o [] feed (newcomer pass) (caller pass opened) base base
drained-first o feed pass opened base e none =
    subst (λ places. IsDrained o [] feed (newcomer pass) (caller pass places) base base) (sym none) (drained-none o feed (newcomer pass) base e)

pub on-err : {A E : Type 0} {P : Type 0} (r : Result A E) → P → OnErr r P
on-err (Ok x) p = tt
on-err (Err e) p = p

-- the same of a call that fails
pub broken-by : {A E : Type 0} (r : Result A E) (o : Origin) (before feed : FeedValue) (old caller : Caller) (now : PassValue) (first mid written : Option (List ℕ))
    → ((taken : List ℕ) (start : Caller) (base : Option (List ℕ)) → IsServing o taken before start old base first → IsServing o taken feed start caller base mid)
    → ((taken : List ℕ) (start : Caller) (base : Option (List ℕ)) → IsServing o taken feed start caller base mid → IsBroken o taken start now base written)
    → OnErr r ((taken : List ℕ) (start : Caller) (base : Option (List ℕ)) → IsServing o taken before start old base first → IsBroken o taken start now base written)
broken-by (Ok x) o before feed old caller now first mid written so_far breaks = tt
broken-by (Err e) o before feed old caller now first mid written so_far breaks = λ taken start base s. breaks taken start base (so_far taken start base s)

-- ---- to the end of a connection

-- the lines of all bytes begin with those that were given
given_first : (calls : List Call) (taken more : List ℕ) → (past calls).taken ≡ taken
    → lines (taken ++ more) ≡ (past calls).given ++ lines_in (with_bytes (past calls).feed more)
given_first calls taken more is = ap (λ bytes. lines (bytes ++ more)) (sym is) ∙ whole_streams calls more

with_none : (feed : FeedValue) → with_bytes feed [] ≡ feed
with_none feed = ap (λ bytes. record feed { unread = bytes }) (append-nil feed.unread)

drained-lines : (o : Origin) (taken : List ℕ) (feed : FeedValue) (start caller : Caller) (base written : Option (List ℕ))
    (d : IsDrained o taken feed start caller base written)
    → lines taken ≡ lines_of d.serving.exchanges
drained-lines o taken feed start caller base written d =
    let s = d.serving in
    ap lines (sym (append-nil taken)) ∙ given_first s.calls taken [] s.bytes
    ∙ ap (λ ls. (past s.calls).given ++ ls) (ap lines_in (with_none (past s.calls).feed ∙ s.kept) ∙ d.none)
    ∙ append-nil (past s.calls).given ∙ s.given

pub served : (o : Origin) (before mid after : Inward) (n more : ℕ) (taken : List ℕ) (feed : FeedValue) (start : PassValue) (caller : Caller)
    (base written : Option (List ℕ))
    → mid ≡ looked_at n 0 taken before → after ≡ looked_at more 1 [] mid → IsDrained o taken feed (newcomer start) caller base written
    → IsServed o start caller.pass before after base written
served o before mid after n more taken feed start caller base written p q d = record {
  reads = n + more;
  came = taken;
  read = read-no_more before mid after n more 1 taken p q;
  exchanges = d.serving.exchanges;
  all = drained-lines o taken feed (newcomer start) caller base written d;
  right = d.serving.right;
  passed = ap (λ (c : Caller). c.pass) d.serving.remembered;
  sent = d.serving.sent;
}

-- it was cut off after more bytes came, of which no line was given
pub cut-reading : (o : Origin) (before mid after : Inward) (n more : ℕ) (taken piece : List ℕ) (feed : FeedValue) (start : PassValue) (caller : Caller)
    (base written : Option (List ℕ))
    → mid ≡ looked_at n 0 taken before → after ≡ looked_at more 0 piece mid → IsDrained o taken feed (newcomer start) caller base written
    → IsCutOff o start caller.pass before after base written
cut-reading o before mid after n more taken piece feed start caller base written p q d =
    let s = d.serving in
    record {
      reads = n + more;
      came = taken ++ piece;
      read = read-then before mid after n more 0 taken piece p q;
      exchanges = s.exchanges;
      later = lines_in (with_bytes (past s.calls).feed piece);
      first = given_first s.calls taken piece s.bytes ∙ ap (λ ls. ls ++ lines_in (with_bytes (past s.calls).feed piece)) s.given;
      right = s.right;
      passed = seen-same _ _ (ap (λ (c : Caller). c.pass) s.remembered);
      sent = (replies_of s.exchanges, [], sym (append-nil (replies_of s.exchanges)), s.sent);
    }

-- it was cut off while its lines were answered
pub cut-answering : (o : Origin) (before mid after : Inward) (n more : ℕ) (taken piece : List ℕ) (start pass : PassValue)
    (base written : Option (List ℕ))
    → mid ≡ looked_at n 0 taken before → after ≡ looked_at more 0 piece mid → IsBroken o (taken ++ piece) (newcomer start) pass base written
    → IsCutOff o start pass before after base written
cut-answering o before mid after n more taken piece start pass base written p q b =
    let left = lines_in (with_bytes (past b.calls).feed []) in
    record {
      reads = n + more;
      came = taken ++ piece;
      read = read-then before mid after n more 0 taken piece p q;
      exchanges = b.exchanges;
      later = b.later ++ left;
      first =
          ap lines (sym (append-nil (taken ++ piece))) ∙ given_first b.calls (taken ++ piece) [] b.bytes ∙ ap (λ ls. ls ++ left) b.given
          ∙ append_assoc (lines_of b.exchanges) b.later left;
      right = b.right;
      passed = b.passed;
      sent = b.sent;
    }
