-- Lists of lines, read back line by line.
use Rattle.std.proofs.Common.{◌≡◌, ℕ, Bool, List, [], ◌∷◌, ◌++◌, codes, ap, sym, subst, ◌∙◌, append_assoc}
use Rattle.std.specs.List.{AllByRecursion, AllZip}
use Rattle.acas_rulings.specs.declared.ruling.Ruling.{Ruling}
use Rattle.acas_rulings.specs.declared.ruling.Ruling.TheVariants.{Certified, Reported}
use Rattle.acas_report_lines.specs.Report.{Ruled, lines_of, shown}
use Rattle.acas_report_lines.specs.Text.{is_certified}
use Rattle.acas_report_lines.specs.declared.counts.Which.TheVariants as which
use Rattle.acas_report_laws.specs.Told.{names_of}
use Rattle.acas_report_laws.proofs.Fields.{Same}
use Rattle.acas_report_laws.proofs.Names.{IsRead}

-- lines that are told apart, of names that may be printed
pub record AreLines {N R : Type 0} (SameAs : R → R → Type 0) (MayBe : N → Type 0) (line : N → R → List ℕ) : Type 0 where
  pub read : (x y : N) (r q : R) (s t : List ℕ) → MayBe x → MayBe y → line x r ++ s ≡ line y q ++ t → IsRead SameAs x y r q s t
  pub not_last : (x : N) (r : R) (s t : List ℕ) → line x r ++ s ≡ codes "certified" ++ t → ⊥

-- the two say the same of the same
pub record SaysSame {N R : Type 0} (SameAs : R → R → Type 0) (r q : Ruled N R) : Type 0 where
  pub name : r.name ≡ q.name
  pub ruling : SameAs r.ruling q.ruling

abbrev pub AllMay : {N R : Type 0} → (N → Type 0) → List (Ruled N R) → Type 0
AllMay MayBe ruled = AllByRecursion MayBe (names_of ruled)

-- the name is none of these
abbrev pub IsNone : {N : Type 0} → N → List N → Type 0
IsNone x names = AllByRecursion (λ y. x ≡ y → ⊥) names

-- each name stands once
abbrev pub StandOnce : {N : Type 0} → List N → Type 0
StandOnce [] = Unit {0}
StandOnce (x ∷ names) = IsNone x names × StandOnce names

-- all lines, whichever are certified
abbrev all_lines : {N R : Type 0} → (R → Bool) → (N → R → List ℕ) → List (Ruled N R) → List ℕ
all_lines certified line ruled = lines_of certified line which.All ruled

pub read_all : {N R : Type 0} (SameAs : R → R → Type 0) (certified : R → Bool) (MayBe : N → Type 0) (line : N → R → List ℕ) (ruled other : List (Ruled N R)) (s t : List ℕ) → AreLines SameAs MayBe line → AllMay MayBe ruled → AllMay MayBe other →
    all_lines certified line ruled ++ (codes "certified" ++ s) ≡ all_lines certified line other ++ (codes "certified" ++ t) → AllZip (SaysSame SameAs) ruled other
read_all SameAs certified MayBe line [] [] s t lines mr mo e = tt
read_all SameAs certified MayBe line [] (o ∷ os) s t lines mr mo e = absurd (lines.not_last o.name o.ruling _ _ (sym (append_assoc (line o.name o.ruling) (all_lines certified line os) (codes "certified" ++ t)) ∙ sym e))
read_all SameAs certified MayBe line (r ∷ rs) [] s t lines mr mo e = absurd (lines.not_last r.name r.ruling _ _ (sym (append_assoc (line r.name r.ruling) (all_lines certified line rs) (codes "certified" ++ s)) ∙ e))
read_all SameAs certified MayBe line (r ∷ rs) (o ∷ os) s t lines mr mo e =
    let here = lines.read r.name o.name r.ruling o.ruling (all_lines certified line rs ++ (codes "certified" ++ s)) (all_lines certified line os ++ (codes "certified" ++ t)) mr.0 mo.0
    (sym (append_assoc (line r.name r.ruling) (all_lines certified line rs) (codes "certified" ++ s)) ∙ e ∙ append_assoc (line o.name o.ruling) (all_lines certified line os) (codes "certified" ++ t)) in
    (record { name = here.name; ruling = here.ruling }, read_all SameAs certified MayBe line rs os s t lines mr.1 mo.1 here.rest)

-- the same where the names are known to be the same
pub read_alike : {N R : Type 0} (SameAs : R → R → Type 0) (certified : R → Bool) (line : N → R → List ℕ) (ruled other : List (Ruled N R)) (s t : List ℕ) → ((x : N) (r q : R) (s t : List ℕ) → line x r ++ s ≡ line x q ++ t → SameAs r q × (s ≡ t)) →
    names_of ruled ≡ names_of other → all_lines certified line ruled ++ s ≡ all_lines certified line other ++ t → AllZip (SaysSame SameAs) ruled other
read_alike SameAs certified line [] [] s t read names e = tt
read_alike SameAs certified line [] (o ∷ os) s t read names e = absurd (cc)
read_alike SameAs certified line (r ∷ rs) [] s t read names e = absurd (cc)
read_alike SameAs certified line (r ∷ rs) (o ∷ os) s t read names e =
    let name : r.name ≡ o.name = cc in
    let rest : names_of rs ≡ names_of os = cc in
    let here = read r.name r.ruling o.ruling (all_lines certified line rs ++ s) (all_lines certified line os ++ t)
    (sym (append_assoc (line r.name r.ruling) (all_lines certified line rs) s) ∙ e ∙ append_assoc (line o.name o.ruling) (all_lines certified line os) t ∙ ap (λ x. line x o.ruling ++ (all_lines certified line os ++ t)) (sym name)) in
    (record { name = name; ruling = here.0 }, read_alike SameAs certified line rs os s t read rest here.1)

-- ---- where certified lines are left out

-- the lines that are left
abbrev lines_left : {N : Type 0} → (N → Ruling → List ℕ) → List (Ruled N Ruling) → List ℕ
lines_left line ruled = lines_of is_certified line which.Reported ruled

-- no line of others is that of a name
no_other : {A N : Type 0} (MayBe : N → Type 0) (line : N → Ruling → List ℕ) (x : N) (q : Ruling) (others : List (Ruled N Ruling)) (s t : List ℕ) → AreLines Same MayBe line → MayBe x → AllMay MayBe others →
    IsNone x (names_of others) → lines_left line others ++ (codes "certified" ++ s) ≡ line x q ++ t → A
no_other MayBe line x q [] s t lines mx mo apart e = absurd (lines.not_last x q t s (sym e))
no_other {A} MayBe line x q (o ∷ os) s t lines mx mo apart e =
    by o.ruling (λ e. no_other MayBe line x q os s t lines mx mo.1 apart.1 e) e
  where
    behind : List ℕ
    behind = lines_left line os

    by : (k : Ruling) → (behind ++ (codes "certified" ++ s) ≡ line x q ++ t → A) →
        (shown which.Reported (is_certified k) (line o.name k) ++ behind) ++ (codes "certified" ++ s) ≡ line x q ++ t → A
    by Certified more e = more e
    by (Reported w) more e =
        absurd (apart.0 (sym (lines.read o.name x (Reported w) q (behind ++ (codes "certified" ++ s)) t mo.0 mx (sym (append_assoc (line o.name (Reported w)) behind (codes "certified" ++ s)) ∙ e)).name))

pub read_reported : {N : Type 0} (MayBe : N → Type 0) (line : N → Ruling → List ℕ) (ruled other : List (Ruled N Ruling)) (s t : List ℕ) → AreLines Same MayBe line → AllMay MayBe ruled → AllMay MayBe other →
    StandOnce (names_of ruled) → names_of ruled ≡ names_of other →
    lines_left line ruled ++ (codes "certified" ++ s) ≡ lines_left line other ++ (codes "certified" ++ t) → AllZip (SaysSame Same) ruled other
read_reported MayBe line [] [] s t lines mr mo once names e = tt
read_reported MayBe line [] (o ∷ os) s t lines mr mo once names e = absurd (cc)
read_reported MayBe line (r ∷ rs) [] s t lines mr mo once names e = absurd (cc)
read_reported MayBe line (r ∷ rs) (o ∷ os) s t lines mr mo once names e =
    let same : r.name ≡ o.name = cc in
    let rest : names_of rs ≡ names_of os = cc in
    let here = by same rest r.ruling o.ruling e in
    (record { name = same; ruling = here.0 }, read_reported MayBe line rs os s t lines mr.1 mo.1 once.1 rest here.1)
  where
    first : List ℕ
    first = lines_left line rs

    second : List ℕ
    second = lines_left line os

    by : r.name ≡ o.name → names_of rs ≡ names_of os → (k l : Ruling) →
        (shown which.Reported (is_certified k) (line r.name k) ++ first) ++ (codes "certified" ++ s) ≡ (shown which.Reported (is_certified l) (line o.name l) ++ second) ++ (codes "certified" ++ t) →
        Same k l × (first ++ (codes "certified" ++ s) ≡ second ++ (codes "certified" ++ t))
    by same rest Certified Certified e = (tt, e)
    by same rest Certified (Reported v) e =
        no_other MayBe line r.name (Reported v) rs s (second ++ (codes "certified" ++ t)) lines mr.0 mr.1 once.0
        (e ∙ append_assoc (line o.name (Reported v)) second (codes "certified" ++ t) ∙ ap (λ x. line x (Reported v) ++ (second ++ (codes "certified" ++ t))) (sym same))
    by same rest (Reported w) Certified e =
        no_other MayBe line r.name (Reported w) os t (first ++ (codes "certified" ++ s)) lines mr.0 mo.1 (subst (IsNone r.name) rest once.0)
        (sym e ∙ append_assoc (line r.name (Reported w)) first (codes "certified" ++ s))
    by same rest (Reported w) (Reported v) e =
        let read = lines.read r.name o.name (Reported w) (Reported v) (first ++ (codes "certified" ++ s)) (second ++ (codes "certified" ++ t)) mr.0 mo.0
        (sym (append_assoc (line r.name (Reported w)) first (codes "certified" ++ s)) ∙ e ∙ append_assoc (line o.name (Reported v)) second (codes "certified" ++ t)) in
        (read.ruling, read.rest)
