-- Files that hold a part of some bytes.
use Rattle.std.proofs.Common.{◌≡◌, ℕ, ◌+◌, ◌<◌, List, [], ◌++◌, length, take, Option, Some, sym, subst, ap, ◌∙◌, arith, length-append}
use Rattle.std.specs.Prelude.{IsSomeAnd, unwrap_or}
use Rattle.std.specs.FinMap.{get, insert}
use Rattle.std.proofs.lemmas.List.{length-take-le}
use Rattle.acas_outside.specs.Files.{Files, GrowsPart, StoresPart}
use Rattle.acas_outside.proofs.Inserted.{get-insert_same}

-- what a name holds that was inserted
some_at : (files : Files) (name bytes : List ℕ) (P : List ℕ → Type 0) (new : Option Files) → new ≡ Some (insert files name bytes) → P bytes
    → IsSomeAnd new (λ now. IsSomeAnd (get now name) P)
some_at files name bytes P new e h =
    subst (λ (o : Option Files). IsSomeAnd o (λ now. IsSomeAnd (get now name) P)) (sym e)
    (subst (λ (o : Option (List ℕ)). IsSomeAnd o P) (sym (get-insert_same files name bytes)) h)

pub stored-shorter : (files : Files) (new : Option Files) (name bytes : List ℕ) → StoresPart (Some files) new name bytes
    → IsSomeAnd new (λ now. IsSomeAnd (get now name) (λ held. length held < length bytes))
stored-shorter files new name bytes p =
    some_at files name (take p.count bytes) (λ held. length held < length bytes) new p.stored (omega (arith, length-take-le p.count bytes (omega (arith, p.proper)), p.proper))

pub grown-shorter : (files : Files) (new : Option Files) (name held bytes : List ℕ) → GrowsPart (Some files) new name bytes → get files name ≡ Some held
    → IsSomeAnd new (λ now. IsSomeAnd (get now name) (λ longer. length longer < length held + length bytes))
grown-shorter files new name held bytes p there =
    let first : List ℕ = take p.count bytes in
    let long : length first ≡ p.count = length-take-le p.count bytes (omega (arith, p.proper)) in
    some_at files name (held ++ first) (λ longer. length longer < length held + length bytes) new
    (p.grown ∙ ap (λ (o : Option (List ℕ)). Some (insert files name (unwrap_or o [] ++ first))) there)
    (omega (arith, length-append held first, long, p.proper))
