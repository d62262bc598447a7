-- Bytes that are taken no more than once.
use Rattle.std.proofs.Common.{◌≡◌, ℕ, ◌+◌, ◌≤◌, List, ◌++◌, Option, None, Some, subst, arith}
use Rattle.std.specs.FinMap.{get}
use Rattle.std.proofs.lemmas.List.Sums.{sum_by-append}
use Rattle.acas_outside.specs.Counts.{raised}
use Rattle.acas_outside.specs.Files.{Files}
use Rattle.acas_outside.specs.Once.{TakesOnce, bytes_under, length_of_file}

-- one more after another
pub raised_twice : (a b c m n : ℕ) → b ≤ raised a m → c ≤ raised b n → c ≤ raised a (m + n)
raised_twice a b c m n first second = omega (arith, first, second)

pub raised_more : (a b m n : ℕ) → m ≤ n → b ≤ raised a m → b ≤ raised a n
raised_more a b m n more taken = omega (arith, more, taken)

-- the files of some names have no more bytes than those of these and others
bytes_both : (names more : List (List ℕ)) (files : Files) → bytes_under (names ++ more) files ≡ bytes_under names files + bytes_under more files
bytes_both names more files = sum_by-append (λ (name : List ℕ). length_of_file (get files name)) names more

-- what two calls take one after the other
pub takes_both : (names more : List (List ℕ)) (holds mid : Option Files) (a b c : ℕ) → mid ≡ holds → TakesOnce names holds a b → TakesOnce more mid b c → TakesOnce (names ++ more) holds a c
takes_both names more None mid a b c same first second = tt
takes_both names more (Some files) mid a b c same first second =
    let told : c ≤ raised b (bytes_under more files) = subst (λ (h : Option Files). TakesOnce more h b c) same second in
    omega (arith, raised_twice a b c (bytes_under names files) (bytes_under more files) first told, bytes_both names more files)

-- what is taken of some files is taken of these and others
pub takes_first : (names more : List (List ℕ)) (holds : Option Files) (a b : ℕ) → TakesOnce names holds a b → TakesOnce (names ++ more) holds a b
takes_first names more None a b takes = tt
takes_first names more (Some files) a b takes =
    omega (arith, raised_more a b (bytes_under names files) (bytes_under names files + bytes_under more files) (omega arith) takes, bytes_both names more files)

pub takes_none : (names : List (List ℕ)) (holds : Option Files) (a b : ℕ) → b ≡ a → TakesOnce names holds a b
takes_none names None a b same = tt
takes_none names (Some files) a b same = omega (arith, same)
