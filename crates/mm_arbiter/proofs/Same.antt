-- Values that are the same in two cycles, where what they are made of is.
use Rattle.std.proofs.Common.{◌≡◌, ℕ, ◌==◌, if◌then◌else◌, sym, ap, ◌∙◌}
use Rattle.histories.specs.History.{is_raised}
use Rattle.memory_machines.specs.Machines.{Raw}

pub same_by_one : {A B : Type 0} (f : A → B) {x x' : A} {z z' : B} → z ≡ f x → z' ≡ f x' → x ≡ x' → z ≡ z'
same_by_one f e e' h = e ∙ ap f h ∙ sym e'

pub same_by_two : {A B C : Type 0} (f : A → B → C) {x x' : A} {y y' : B} {z z' : C} → z ≡ f x y → z' ≡ f x' y' → x ≡ x' → y ≡ y' → z ≡ z'
same_by_two f {x = x} {y' = y'} e e' h k = e ∙ ap (f x) k ∙ ap (λ a. f a y') h ∙ sym e'

pub same_any : {n n' any any' : ℕ} → any ≡ (if n == 0 then 0 else 1) → any' ≡ (if n' == 0 then 0 else 1) → n ≡ n' → any ≡ any'
same_any e e' h = e ∙ ap (λ n. if n == 0 then 0 else 1) h ∙ sym e'

pub same_choice : {bit bit' high high' low low' made made' : ℕ} → bit ≡ bit' → high ≡ high' → low ≡ low' → made ≡ (if bit == 0 then low else high) → made' ≡ (if bit' == 0 then low' else high') → made ≡ made'
same_choice {bit = bit} {bit' = bit'} {high = high} {high' = high'} {low = low} {low' = low'} b y n e e' =
    e ∙ ap (λ m. if bit == 0 then low else m) y ∙ ap (λ m. if bit == 0 then m else high') n ∙ ap (λ m. if m == 0 then low' else high') b ∙ sym e'

pub same_raw : {bit bit' : ℕ} {high high' low low' made made' : Raw} → bit ≡ bit' → high ≡ high' → low ≡ low' → made ≡ (if is_raised bit then high else low) → made' ≡ (if is_raised bit' then high' else low') → made ≡ made'
same_raw {bit = bit} {bit' = bit'} {high = high} {high' = high'} {low = low} {low' = low'} b y n e e' =
    e ∙ ap (λ (raw : Raw). if is_raised bit then raw else low) y ∙ ap (λ (raw : Raw). if is_raised bit then high' else raw) n ∙ ap (λ m. if is_raised m then high' else low') b ∙ sym e'
