-- Bytes that are appended piece by piece.
use Rattle.std.proofs.Common.{◌≡◌, ℕ, ◌+◌, ◌-◌, ◌≤◌, List, ◌++◌, length, take, drop, Option, None, Some, refl, sym, ◌∙◌, ap, append_assoc, subst, length-drop, length-append, take-append-drop, get_or, OnErr, Result, Ok, Err, ◌∷◌, [], ◌<◌, arith}
use Rattle.std.proofs.Math.Seq.{take-add, take-append-add}
use Rattle.std.proofs.lemmas.List.{take_all, take_more, take-append-le, append-nil}
use Rattle.std.proofs.lemmas.Grind.{flat_map-append}
use Rattle.std.specs.Borrow.{Bor}
use Rattle.std.specs.Io.KnownBytes.{append_known}
use Rattle.acas_outside.specs.Bytes.{Appends, AppendsPart, joined}

-- bytes that are appended after others are appended with them
pub append_known-append : (known : Option (List ℕ)) (a b : List ℕ) → append_known (append_known known a) b ≡ append_known known (a ++ b)
append_known-append None a b = refl
append_known-append (Some xs) a b = ap Some (append_assoc xs a b)

-- nothing is appended where nothing changes
pub appends_none : (known : Option (List ℕ)) → Appends known known []
appends_none None = refl
appends_none (Some xs) = ap Some (sym (append-nil xs))

-- some bytes are appended and then others
pub appends_then : (old mid new : Option (List ℕ)) (a b : List ℕ) → Appends old mid a → Appends mid new b → Appends old new (a ++ b)
appends_then old mid new a b first then = then ∙ ap (λ k. append_known k b) first ∙ append_known-append old a b

-- the slice from a place on is the rest
pub slice_rest : (bytes : List ℕ) (at : ℕ) → take (length bytes - at) (drop at bytes) ≡ drop at bytes
slice_rest bytes at = take_all (length bytes - at) (drop at bytes) (omega (arith, length-drop at bytes))

-- the first bytes are appended and then the first of the rest
pub appends_more : (old mid new : Option (List ℕ)) (bytes : List ℕ) (at n : ℕ) → Appends old mid (take at bytes) → Appends mid new (take n (take (length bytes - at) (drop at bytes))) → Appends old new (take (at + n) bytes)
appends_more old mid new bytes at n first then =
    subst (λ (l : List ℕ). Appends old new l)
    (ap (λ (l : List ℕ). take at bytes ++ take n l) (slice_rest bytes at) ∙ sym (take-add at n bytes))
    (appends_then old mid new (take at bytes) (take n (take (length bytes - at) (drop at bytes))) first then)

-- what holds without the fault holds where there is one
pub on_err_always : {T E P : Type 0} (r : Result T E) → P → OnErr r P
on_err_always (Ok x) p = tt
on_err_always (Err e) p = p

-- the first piece and the first bytes of the next one
pub take-append : (xs ys zs : List ℕ) (n : ℕ) → n ≤ length ys → take (length xs + n) (xs ++ ys ++ zs) ≡ xs ++ take n ys
take-append xs ys zs n within =
    ap (λ (l : List ℕ). take (length xs + n) l) (append_assoc xs ys zs)
    ∙ take-append-add xs (ys ++ zs) n
    ∙ ap (λ (l : List ℕ). xs ++ l) (take-append-le n ys zs within)

-- some bytes are appended and then a part of the next ones
pub appends_part_behind : (old mid new : Option (List ℕ)) (first piece rest : List ℕ) → Appends old mid first → AppendsPart mid new piece → AppendsPart old new (first ++ piece ++ rest)
appends_part_behind old mid new first piece rest whole part = record {
  count = length first + part.count;
  proper = omega (arith, length-append first piece, length-append (first ++ piece) rest, part.proper);
  appended =
      subst (λ (l : List ℕ). Appends old new l) (sym (take-append first piece rest part.count (omega (arith, part.proper))))
      (appends_then old mid new first (take part.count piece) whole part.appended);
}

-- the parts are those before a place, the one at it, and those behind it
joined-split : (parts : List (Bor (List ℕ))) (i : ℕ) (d : Bor (List ℕ)) → i < length parts → joined parts ≡ joined (take i parts) ++ (get_or parts i d).now ++ joined (drop (i + 1) parts)
joined-split parts i d here =
    ap joined (sym (take-append-drop (i + 1) parts) ∙ ap (λ (l : List (Bor (List ℕ))). l ++ drop (i + 1) parts) (take_more parts i d here))
    ∙ flat_map-append (λ (part : Bor (List ℕ)). part.now) (take i parts ++ get_or parts i d ∷ []) (drop (i + 1) parts)
    ∙ ap (λ (l : List ℕ). l ++ joined (drop (i + 1) parts)) (
    flat_map-append (λ (part : Bor (List ℕ)). part.now) (take i parts) (get_or parts i d ∷ [])
    ∙ ap (λ (l : List ℕ). joined (take i parts) ++ l) (append-nil (get_or parts i d).now))

-- the parts before a place are appended and then a part of the one at it
pub part_of_joined : (old mid new : Option (List ℕ)) (parts : List (Bor (List ℕ))) (i : ℕ) (d : Bor (List ℕ)) → i < length parts → Appends old mid (joined (take i parts)) → AppendsPart mid new (get_or parts i d).now → AppendsPart old new (joined parts)
part_of_joined old mid new parts i d here whole part =
    subst (AppendsPart old new) (sym (joined-split parts i d here)) (appends_part_behind old mid new _ _ (joined (drop (i + 1) parts)) whole part)
