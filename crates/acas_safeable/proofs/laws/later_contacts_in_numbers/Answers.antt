use Rattle.std.proofs.Common.{◌≡◌, ℕ, ◌+◌, ap, ◌∙◌, List, ◌++◌, pos, ◌*ℤ◌}
use Rattle.acas_flight.specs.Response.{Segment, lasting}
use Rattle.acas_safeable.proofs.Follow.{climb_joined, lasting_joined}
use Rattle.acas_safeable.proofs.laws.later_contacts_in_numbers.Goals as goal

lasts : (q : ℕ) (first second : List Segment) → lasting first ≡ q → lasting (first ++ second) ≡ q + lasting second
lasts q first second one = lasting_joined first second ∙ ap (λ n. n + lasting second) one

pub returns-clause-contact : goal.returns-clause-contact
returns-clause-contact c = λ m n i j k advisory q s first second. (
  λ e.
      let vertical = rw (lasts q first second e.one_second, climb_joined (s.own *ℤ pos q) first second) at e.contact.vertical in
      let horizontal = rw (lasts q first second e.one_second) at e.contact.horizontal in
      (e.some, e.inside, e.clear, e.one_second, e.meets, horizontal, vertical),
  λ e. record {
    some = e.0;
    inside = e.1;
    clear = e.2;
    one_second = e.3;
    meets = e.4;
    contact = record {
      horizontal = rw (lasts q first second e.3) e.5;
      vertical = rw (lasts q first second e.3, climb_joined (s.own *ℤ pos q) first second) e.6;
    };
  },
)

pub returns-clause-safe : goal.returns-clause-safe
returns-clause-safe c = λ m n i j k advisory. (λ s. s.never, λ never. record { never = never })
