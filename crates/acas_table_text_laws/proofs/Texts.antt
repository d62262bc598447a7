-- The text of a table has only bytes.
use Rattle.std.proofs.Common.{ℕ, zero, suc, ◌+◌, ◌*◌, ◌<◌, List, [], ◌∷◌, ◌++◌, length, get_or, sym, subst, arith}
use Rattle.std.specs.List.{flat_map}
use Rattle.std.specs.Int.{byte_at, bytes_high_first, bytes_low_first, cast_unsigned, w64}
use Rattle.std.specs.Prelude.{codes}
use Rattle.sha2.specs.Sha256.{digest_bytes, final_hash, initial_hash_256, sha256}
use Rattle.byteorder.specs.Endian.{little_bytes}
use Rattle.acas_units.specs.declared.pair.Entry.{Entry}
use Rattle.acas_outside.specs.Bytes.{IsBytes}
use Rattle.acas_table_text.specs.Shape.{entry_count}
use Rattle.acas_table_text.specs.Format.{version_of}
use Rattle.acas_table_text.specs.Tables.{entry_of_state, layers_at, no_entry}
use Rattle.acas_table_text.specs.Text.{chain, entry_at, entry_text, header, layer_text, text_of_layers}
use Rattle.acas_table_text.specs.Growth.{base, body, ending}
use Rattle.acas_table_text.specs.declared.format.Format.{Format}
use Rattle.acas_table_text.specs.declared.format.Format.TheVariants.{Layered, Whole}
use Rattle.acas_table_text.specs.declared.shape.TableShape.{TableShape}
use Rattle.acas_table_text.proofs.Given.{entry_given, layers_given_even, length-layers_at}
use Rattle.acas_table_text.proofs.Parts.{bytes_of_both}
use Rattle.acas_table_text_laws.proofs.Chains.{text-chain}
use Rattle.acas_table_text_laws.proofs.TextLaws.{place_below}

none_small : IsBytes []
none_small i = omega arith

one_small : (x : ℕ) (rest : List ℕ) → x < 256 → IsBytes rest → IsBytes (x ∷ rest)
one_small x rest here behind zero = here
one_small x rest here behind (suc i) = behind i

byte_small : (i x : ℕ) → byte_at i x < 256
byte_small zero x = omega arith
byte_small (suc i) x = omega arith

low_small : (n j x : ℕ) → IsBytes (bytes_low_first j n x)
low_small zero j x i = omega arith
low_small (suc n) j x zero = byte_small j x
low_small (suc n) j x (suc i) = low_small n (suc j) x i

high_small : (n x : ℕ) → IsBytes (bytes_high_first n x)
high_small zero x i = omega arith
high_small (suc n) x zero = byte_small n x
high_small (suc n) x (suc i) = high_small n x i

digest_small : (h : List ℕ) (n : ℕ) → IsBytes (digest_bytes h n)
unfolding digest_bytes
digest_small h zero = none_small
digest_small h (suc n) = bytes_of_both (digest_bytes h n) _ (digest_small h n) (high_small 4 _)

sha256_small : (m : List ℕ) → IsBytes (sha256 m)
unfolding sha256
sha256_small m = digest_small (final_hash initial_hash_256 m) 8

entry_small : (e : Entry) → e.advice < 256 → IsBytes (entry_text e)
unfolding entry_text
entry_small e advice =
    let upper = little_bytes 8 (cast_unsigned w64 e.pair.upper) in
    let lower = little_bytes 8 (cast_unsigned w64 e.pair.lower) in
    bytes_of_both (upper ++ lower) (e.advice ∷ []) (bytes_of_both upper lower (low_small 8 0 (cast_unsigned w64 e.pair.upper)) (low_small 8 0 (cast_unsigned w64 e.pair.lower))) (one_small e.advice [] advice none_small)

layer_small : (layer : List Entry) → ((state : ℕ) → state < length layer → (get_or layer state no_entry).advice < 256) → IsBytes (layer_text layer)
layer_small [] advice = none_small
layer_small (e ∷ es) advice =
    bytes_of_both (entry_text e) (layer_text es) (entry_small e (advice 0 (omega arith))) (layer_small es (λ state within. advice (suc state) (omega arith)))

-- each advice of the layers is a byte
abbrev pub SmallAdvice : List (List Entry) → Type 0
SmallAdvice layers = (n state : ℕ) → n < length layers → state < length (get_or layers n []) → (entry_of_state layers n state).advice < 256

flat_small : (layers : List (List Entry)) → SmallAdvice layers → IsBytes (flat_map layer_text layers)
flat_small [] advice = none_small
flat_small (l ∷ ls) advice =
    bytes_of_both (layer_text l) (flat_map layer_text ls) (layer_small l (λ state within. advice 0 state (omega arith) within)) (flat_small ls (λ n state there within. advice (suc n) state (omega arith) within))

chain_small : (before : List ℕ) (layers : List (List Entry)) → SmallAdvice layers → IsBytes (chain before layers)
chain_small before [] advice = none_small
chain_small before (l ∷ ls) advice =
    let digest = sha256 (before ++ layer_text l) in
    bytes_of_both (layer_text l ++ digest) (chain digest ls)
    (bytes_of_both (layer_text l) digest (layer_small l (λ state within. advice 0 state (omega arith) within)) (sha256_small (before ++ layer_text l)))
    (chain_small digest ls (λ n state there within. advice (suc n) state (omega arith) within))

body_small : (f : Format) (head : List ℕ) (layers : List (List Entry)) → SmallAdvice layers → IsBytes (body f head layers)
body_small Whole head layers advice = flat_small layers advice
body_small Layered head layers advice = chain_small head layers advice

ending_small : (f : Format) (before : List ℕ) → IsBytes (ending f before)
ending_small Whole before = sha256_small before
ending_small Layered before = none_small

letters_small : IsBytes (codes "ACXT")
letters_small = one_small 65 (67 ∷ 88 ∷ 84 ∷ []) (omega arith) (one_small 67 (88 ∷ 84 ∷ []) (omega arith) (one_small 88 (84 ∷ []) (omega arith) (one_small 84 [] (omega arith) none_small)))

then_number : (front : List ℕ) (x : ℕ) → IsBytes front → IsBytes (front ++ little_bytes 4 x)
then_number front x small = bytes_of_both front (little_bytes 4 x) small (low_small 4 0 x)

header_small : (f : Format) (digest : List ℕ) (s : TableShape) → IsBytes digest → IsBytes (header f digest s)
unfolding header
header_small f digest s small =
    let front = codes "ACXT" ++ little_bytes 4 (version_of f) in
    let altitudes = front ++ digest ++ little_bytes 4 s.altitudes in
    let own_rates = altitudes ++ little_bytes 4 s.own_rates in
    let intruder_rates = own_rates ++ little_bytes 4 s.intruder_rates in
    let advisories = intruder_rates ++ little_bytes 4 s.advisories in
    then_number advisories s.horizon
    (then_number intruder_rates s.advisories
    (then_number own_rates s.intruder_rates
    (then_number altitudes s.own_rates
    (then_number (front ++ digest) s.altitudes
    (bytes_of_both front digest (then_number (codes "ACXT") (version_of f) letters_small) small)))))

-- the text of layers whose advices are bytes has only bytes
pub text_small : (f : Format) (digest : List ℕ) (s : TableShape) (layers : List (List Entry)) → IsBytes digest → SmallAdvice layers → IsBytes (text_of_layers f digest s layers)
text_small f digest s layers small advice =
    let head = header f digest s in
    let end = ending f (base f head layers) in
    subst IsBytes (text-chain f head layers)
    (bytes_of_both (head ++ body f head layers) end (bytes_of_both head (body f head layers) (header_small f digest s small) (body_small f head layers advice)) (ending_small f (base f head layers)))

-- the advices of the layers that bytes have are bytes, where each entry's is
pub small_given : (s : TableShape) (bytes : List ℕ) → ((i : ℕ) → i < entry_count s → (entry_at s bytes i).advice < 256) → SmallAdvice (layers_at s bytes)
small_given s bytes advice n state there within =
    let seconds : n < s.horizon + 1 = omega (arith, length-layers_at s bytes) in
    let inside : state < s.states = omega (arith, layers_given_even s bytes n there) in
    subst (λ (e : Entry). e.advice < 256) (sym (entry_given s bytes n state seconds inside)) (advice (n * s.states + state) (place_below s n state seconds inside))

-- so is the text of those layers
pub text_given_small : (f : Format) (digest : List ℕ) (s : TableShape) (bytes : List ℕ) → IsBytes digest → ((i : ℕ) → i < entry_count s → (entry_at s bytes i).advice < 256)
    → IsBytes (text_of_layers f digest s (layers_at s bytes))
text_given_small f digest s bytes small advice = text_small f digest s (layers_at s bytes) small (small_given s bytes advice)
