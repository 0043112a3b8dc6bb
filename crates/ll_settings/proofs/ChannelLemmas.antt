-- The names of channels: a map of names finds the place of each name's first channel.
use Rattle.std.proofs.Common.{◌≡◌, ℕ, ◌+◌, ◌++◌, List, [], ◌∷◌, Bool, true, false, cond, if◌then◌else◌, is_some, suc, refl, ap, ap₂, sym, ◌∙◌, length, arith, bytes_eq, string_bytes}
use Rattle.std.specs.Prelude.{slice_get, Option, None, Some, String, option_map}
use Rattle.std.specs.Option.{option_or}
use Rattle.std.specs.declared.alloc.Global.{Global}
use Rattle.std.proofs.lemmas.Option.{none-some, same_Some, some_pair_parts}
use Rattle.std.proofs.lemmas.Slice.Eq.{bytes_eq-Decides}
use Rattle.ll_settings.specs.Settings.{Configuration}
use Rattle.ll_settings.specs.ChannelPlaces.{FindsPlaces, place_in}
use Rattle.ll_settings.specs.Channels.{channel_of_name}

named-step : (b : Bool) (cs : List Configuration) (d : Configuration) (first place : ℕ) (name : List ℕ) (c : Configuration)
    → (channel_of_name cs (first + 1) name ≡ Some (place, c) → (i : ℕ) × (place ≡ (first + 1) + i) × (slice_get cs i ≡ Some c))
    → (if b then Some (first, d) else channel_of_name cs (first + 1) name) ≡ Some (place, c) → (i : ℕ) × (place ≡ first + i) × (slice_get (d ∷ cs) i ≡ Some c)
named-step true cs d first place name c next h = let p = some_pair_parts first place d c h in (0, omega (arith, p.0), ap Some p.1)
named-step false cs d first place name c next h =
    let r = next h in
    let n : place ≡ first + suc r.0 = omega (arith, r.1) in
    (suc r.0, n, r.2)

-- a channel that is found stands at its place
pub named-within : (cs : List Configuration) (first place : ℕ) (name : List ℕ) (c : Configuration) → channel_of_name cs first name ≡ Some (place, c)
    → (i : ℕ) × (place ≡ first + i) × (slice_get cs i ≡ Some c)
named-within [] first place name c e = absurd (none-some (place, c) e)
named-within (d ∷ cs) first place name c e = named-step (bytes_eq name d.channel) cs d first place name c (named-within cs (first + 1) place name c) e

found-first : (o : Option (ℕ × Configuration)) (place : ℕ) → Some place ≡ option_map (λ f. f.0) o → (c : Configuration) × (o ≡ Some (place, c))
found-first None place e = absurd (none-some place (sym e))
found-first (Some f) place e = (f.1, ap (λ n. Some (n, f.1)) (sym (same_Some place f.0 e)))

-- what stands at the place that a map of names gives
pub found-at : (es : List (String Global × ℕ)) (cs : List Configuration) (name : List ℕ) (place : ℕ) → FindsPlaces es cs → place_in es name ≡ Some place
    → (c : Configuration) × (slice_get cs place ≡ Some c) × (channel_of_name cs 0 name ≡ Some (place, c))
found-at es cs name place finds is =
    let f = found-first (channel_of_name cs 0 name) place (sym is ∙ finds name) in
    let w = named-within cs 0 place name f.0 f.1 in
    let same : w.0 ≡ place = omega (arith, w.1) in
    (f.0, ap (slice_get cs) (sym same) ∙ w.2, f.1)

chosen-or : {A : Type 0} (b : Bool) (x : A) (o p : Option A) → (if b then Some x else option_or o p) ≡ option_or (if b then Some x else o) p
chosen-or true x o p = refl
chosen-or false x o p = refl

-- one more channel, and one more name
named-push : (cs : List Configuration) (c : Configuration) (first : ℕ) (name : List ℕ)
    → channel_of_name (cs ++ c ∷ []) first name ≡ option_or (channel_of_name cs first name) (if bytes_eq name c.channel then Some (first + length cs, c) else None)
named-push [] c first name = let e : first ≡ first + 0 = omega arith in ap (λ n. if bytes_eq name c.channel then Some (n, c) else None) e
named-push (d ∷ cs) c first name =
    let e : (first + 1) + length cs ≡ first + length (d ∷ cs) = omega arith in
    ap (λ o. if bytes_eq name d.channel then Some (first, d) else o)
    (named-push cs c (first + 1) name ∙ ap (λ n. option_or (channel_of_name cs (first + 1) name) (if bytes_eq name c.channel then Some (n, c) else None)) e)
    ∙ chosen-or (bytes_eq name d.channel) (first, d) (channel_of_name cs (first + 1) name) (if bytes_eq name c.channel then Some (first + length (d ∷ cs), c) else None)

place-or : (o : Option (ℕ × Configuration)) (b : Bool) (n : ℕ) (c : Configuration)
    → option_or (option_map (λ f. f.0) o) (if b then Some n else None) ≡ option_map (λ f. f.0) (option_or o (if b then Some (n, c) else None))
place-or None true n c = refl
place-or None false n c = refl
place-or (Some f) b n c = refl

pub FindsPlaces-push : (es fs : List (String Global × ℕ)) (cs : List Configuration) (c : Configuration) (name : List ℕ) (n : ℕ) → FindsPlaces es cs → name ≡ c.channel → n ≡ length cs
    → ((m : List ℕ) → place_in fs m ≡ option_or (place_in es m) (if bytes_eq m name then Some n else None)) → FindsPlaces fs (cs ++ c ∷ [])
FindsPlaces-push es fs cs c name n finds same long added m =
    let count : n ≡ 0 + length cs = omega (arith, long) in
    added m
    ∙ ap₂ (λ o t. option_or o (if bytes_eq m t then Some n else None)) (finds m) same
    ∙ place-or (channel_of_name cs 0 m) (bytes_eq m c.channel) n c
    ∙ ap (λ l. option_map (λ f. f.0) (option_or (channel_of_name cs 0 m) (if bytes_eq m c.channel then Some (l, c) else None))) count
    ∙ ap (option_map (λ f. f.0)) (sym (named-push cs c 0 m))

-- a name that is new goes last
pub place-pushed : (es : List (String Global × ℕ)) (key : String Global) (place : ℕ) (n : List ℕ)
    → place_in (es ++ (key, place) ∷ []) n ≡ option_or (place_in es n) (if bytes_eq n (string_bytes key) then Some place else None)
place-pushed [] key place n = refl
place-pushed (e ∷ es) key place n =
    ap (cond (bytes_eq n (string_bytes e.0)) (Some e.1)) (place-pushed es key place n)
    ∙ chosen-or (bytes_eq n (string_bytes e.0)) e.1 (place_in es n) (if bytes_eq n (string_bytes key) then Some place else None)

-- a name that the map has keeps its place
pub place-stays : (es : List (String Global × ℕ)) (name : List ℕ) (place : ℕ) (n : List ℕ) → is_some (place_in es name) ≡ true
    → place_in es n ≡ option_or (place_in es n) (if bytes_eq n name then Some place else None)
place-stays es name place n there = by_test (bytes_eq n name) refl
  where
    or_none : (o : Option ℕ) → o ≡ option_or o None
    or_none None = refl
    or_none (Some x) = refl

    or_some : (o p : Option ℕ) → is_some o ≡ true → o ≡ option_or o p
    or_some None p e = absurd (cc)
    or_some (Some x) p e = refl

    by_test : (b : Bool) → bytes_eq n name ≡ b → place_in es n ≡ option_or (place_in es n) (if b then Some place else None)
    by_test true e =
        or_some (place_in es n) (Some place) (ap (λ m. is_some (place_in es m)) ((bytes_eq-Decides n name).0 e) ∙ there)
    by_test false e = or_none (place_in es n)

pub place-none : (o : Option ℕ) → false ≡ is_some o → o ≡ None
place-none None e = refl
place-none (Some x) e = absurd (cc)
