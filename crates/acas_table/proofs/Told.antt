-- What holds of told bytes, carried from one call to the next.
use Rattle.std.proofs.Common.{◌≡◌, List, ℕ, Option, None, Some, subst}
use Rattle.std.specs.Prelude.{IfSome}
use Rattle.std.specs.FinMap.{get}
use Rattle.acas_outside.specs.Files.{Files}
use Rattle.acas_table.specs.Reader.{Told}

file_map : (file : Option (List ℕ)) (P Q : List ℕ → Type 0) → ((bytes : List ℕ) → P bytes → Q bytes) → IfSome file P → IfSome file Q
file_map None P Q f told = tt
file_map (Some bytes) P Q f told = f bytes told

pub told_map : (holds : Option Files) (name : List ℕ) (P Q : List ℕ → Type 0) → ((bytes : List ℕ) → P bytes → Q bytes) → Told holds name P → Told holds name Q
told_map None name P Q f told = tt
told_map (Some files) name P Q f told = file_map (get files name) P Q f told

file_both : (file : Option (List ℕ)) (P Q : List ℕ → Type 0) → IfSome file P → IfSome file Q → IfSome file (λ bytes. P bytes × Q bytes)
file_both None P Q p q = tt
file_both (Some bytes) P Q p q = (p, q)

pub told_both : (holds : Option Files) (name : List ℕ) (P Q : List ℕ → Type 0) → Told holds name P → Told holds name Q → Told holds name (λ bytes. P bytes × Q bytes)
told_both None name P Q p q = tt
told_both (Some files) name P Q p q = file_both (get files name) P Q p q

file_all : (file : Option (List ℕ)) (P : List ℕ → Type 0) → ((bytes : List ℕ) → P bytes) → IfSome file P
file_all None P all = tt
file_all (Some bytes) P all = all bytes

pub told_all : (holds : Option Files) (name : List ℕ) (P : List ℕ → Type 0) → ((bytes : List ℕ) → P bytes) → Told holds name P
told_all None name P all = tt
told_all (Some files) name P all = file_all (get files name) P all

-- one call after another
pub told_then : (holds : Option Files) (name : List ℕ) (P Q R : List ℕ → Type 0) → Told holds name (λ bytes. P bytes → Q bytes) → Told holds name (λ bytes. Q bytes → R bytes) → Told holds name (λ bytes. P bytes → R bytes)
told_then holds name P Q R first second =
    told_map holds name (λ bytes. (P bytes → Q bytes) × (Q bytes → R bytes)) (λ bytes. P bytes → R bytes) (λ bytes both p. both.1 (both.0 p))
    (told_both holds name (λ bytes. P bytes → Q bytes) (λ bytes. Q bytes → R bytes) first second)

-- a folder that holds the same
pub told_at : (holds now : Option Files) (name : List ℕ) (P : List ℕ → Type 0) → now ≡ holds → Told now name P → Told holds name P
told_at holds now name P same told = subst (λ h. Told h name P) same told
