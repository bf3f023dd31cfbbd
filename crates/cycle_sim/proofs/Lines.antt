-- What each kind of equation asks for and gives.
use Rattle.std.proofs.Common.{◌≡◌, ℕ, ◌<◌, ◌≤◌, Bool, true, false, List, length, slice_get, get_or, Option, Some, refl, sym, subst, ap, ◌∙◌, arith}
use Rattle.std.specs.Prelude.{IfSome, option_map, if◌then◌else◌}
use Rattle.std.proofs.lemmas.Bool.{false≢true}
use Rattle.std.proofs.lemmas.Option.{get_or_from_slice_get, slice_get_within, slice_get_read, same_Some}
use Rattle.av_base.specs.Word.{Word, word}
use Rattle.netlist.specs.declared.line.Line.{Line}
use Rattle.netlist.specs.declared.line.Equation.{Equation}
use Rattle.netlist.specs.Netlists.{Netlist, IsModule, IsSound, IsValue, HasWidth, width_at, is_input, line_of}
use Rattle.netlist.specs.Runs.{value_of}
use Rattle.cycle_sim.specs.Sims.{AreNets, bits_at, cycle_with}
use Rattle.cycle_sim.specs.Given.{IsGiven}
use Rattle.cycle_sim.specs.Settled.{is_state}
use Rattle.cycle_sim.proofs.Values.{slice_get-some, width_at-line, bits_at-is}

-- the line of net n, which has this equation
pub record Here (b : Netlist) (n : ℕ) (e : Equation) : Type 0 where
  pub width : ℕ
  pub at : slice_get b.lines n ≡ Some (line_of width e)
  pub sound : IsSound b.ports b.memories b.lines n width e
  pub some_bit : 1 ≤ width
  pub small : width ≤ 128

pub here : (b : Netlist) (n : ℕ) (e : Equation) → IsModule b → n < length b.lines → ((w : ℕ) → HasWidth b n w → slice_get b.lines n ≡ Some (line_of w e)) → Here b n e
here b n e h lt is =
    let some = slice_get-some b.lines n lt in
    let has : HasWidth b n some.0.width = ap (option_map (λ (line : Line). line.width)) some.1 in
    let at = is some.0.width has in
    let sound = h.well_made.lines n (line_of some.0.width e) at in
    record { width = some.0.width; at = at; sound = sound.equation; some_bit = sound.some_bit; small = sound.small }

-- an operand is a net, and has a value
pub within : (lines : List Line) (nets : List Word) (a w : ℕ) → AreNets lines nets → width_at lines a ≡ Some w → a < length nets
within lines nets a w h e =
    let at = width_at-line lines a w e in
    let lt = slice_get_within lines a at.0 at.1 in
    omega (arith, h.count)

pub operand : (lines : List Line) (nets : List Word) (a w : ℕ) → AreNets lines nets → width_at lines a ≡ Some w → (x : Word) → x ≡ get_or nets a x → x ≡ word w (bits_at nets a)
operand lines nets a w h e x is =
    let at = width_at-line lines a w e in
    let lt = slice_get_within lines a at.0 at.1 in
    let stands = slice_get_read nets (length lines) a x (sym h.count) lt is in
    let bits : bits_at nets a ≡ x.bits = ap (λ (y : Word). y.bits) (get_or_from_slice_get nets a x (word 0 0) stands) in
    let width : x.width ≡ w = (h.fit a at.0 x at.1 stands).width ∙ at.2 in
    ap (λ v. word v x.bits) width ∙ ap (λ v. word w v) (sym bits)

pub operand_value : (lines : List Line) (nets : List Word) (a w : ℕ) → AreNets lines nets → width_at lines a ≡ Some w → (x : Word) → x ≡ get_or nets a x → IsValue x w
operand_value lines nets a w h e x is =
    let at = width_at-line lines a w e in
    let lt = slice_get_within lines a at.0 at.1 in
    subst (λ v. IsValue x v) at.2 (h.fit a at.0 x at.1 (slice_get_read nets (length lines) a x (sym h.count) lt is))

pub operand_width : (lines : List Line) (nets : List Word) (a w : ℕ) → AreNets lines nets → width_at lines a ≡ Some w → (x : Word) → x ≡ get_or nets a x → x.width ≡ w
operand_width lines nets a w h e x is = ap (λ (y : Word). y.width) (operand lines nets a w h e x is)

pub same_width : (lines : List Line) (nets : List Word) (a c w : ℕ) → AreNets lines nets → width_at lines a ≡ Some w → width_at lines c ≡ Some w → (x y : Word) → x ≡ get_or nets a x → y ≡ get_or nets c y → x.width ≡ y.width
same_width lines nets a c w h ea ec x y ix iy = operand_width lines nets a w h ea x ix ∙ sym (operand_width lines nets c w h ec y iy)

-- the value that an equation gives, where it is neither an input's nor a register's
pub given : (b : Netlist) (words nets : List Word) (n : ℕ) (e : Equation) (h : Here b n e) (value is : Word) → is_state e ≡ false → value ≡ is → is.width ≡ h.width →
    value_of b.lines (cycle_with b nets words) h.width e ≡ Some is.bits → (line : Line) → slice_get b.lines n ≡ Some line → IsGiven b words nets n line value
given b words nets n e h value is s same w v line at =
    let its : line_of h.width e ≡ line = same_Some _ _ (sym h.at ∙ at) in
    subst (λ (l : Line). IsGiven b words nets n l value) its (record {
      width = ap (λ (x : Word). x.width) same ∙ w;
      state = λ t. absurd (false≢true (sym s ∙ t));
      computed = λ _. subst (λ (o : Option ℕ). IfSome o (λ x. value.bits ≡ x)) (sym v) (ap (λ (x : Word). x.bits) same);
    })

-- of one operand, of two and of three
pub of_one : (f : Word → Word) (x p v : Word) → x ≡ p → v ≡ f x → v ≡ f p
of_one f x p v ex e = e ∙ ap f ex

pub of_two : (f : Word → Word → Word) (x y p q v : Word) → x ≡ p → y ≡ q → v ≡ f x y → v ≡ f p q
of_two f x y p q v ex ey e = e ∙ ap (λ t. f t y) ex ∙ ap (f p) ey

pub of_three : (f : Word → Word → Word → Word) (x y z p q r v : Word) → x ≡ p → y ≡ q → z ≡ r → v ≡ f x y z → v ≡ f p q r
of_three f x y z p q r v ex ey ez e = e ∙ ap (λ t. f t y z) ex ∙ ap (λ t. f p t z) ey ∙ ap (f p q) ez

pub chosen_width : (t : Bool) (w x y : ℕ) → (if t then word w y else word w x).width ≡ w
chosen_width true w x y = refl
chosen_width false w x y = refl

pub chosen_bits : (t : Bool) (w x y : ℕ) → Some (if t then y else x) ≡ Some (if t then word w y else word w x).bits
chosen_bits true w x y = refl
chosen_bits false w x y = refl

-- the value of an input or a register, which stays
pub given_state : (b : Netlist) (words nets : List Word) (n : ℕ) (e : Equation) → AreNets b.lines nets → (h : Here b n e) → (value : Word) → value ≡ get_or nets n value →
    (is_input e ≡ false → IfSome (value_of b.lines (cycle_with b nets words) h.width e) (λ x. value.bits ≡ x)) → (line : Line) → slice_get b.lines n ≡ Some line → IsGiven b words nets n line value
given_state b words nets n e hn h value is computed line at =
    let its : line_of h.width e ≡ line = same_Some _ _ (sym h.at ∙ at) in
    let stands : slice_get nets n ≡ Some value = slice_get_read nets (length b.lines) n value (sym hn.count) (slice_get_within b.lines n (line_of h.width e) h.at) is in
    subst (λ (l : Line). IsGiven b words nets n l value) its (record {
      width = (hn.fit n (line_of h.width e) value h.at stands).width;
      state = λ t. stands;
      computed = computed;
    })

pub record SomeWidth (w : ℕ) : Type 0 where
  pub some_bit : 1 ≤ w
  pub small : w ≤ 128

pub some_width : (b : Netlist) (n w : ℕ) → IsModule b → width_at b.lines n ≡ Some w → SomeWidth w
some_width b n w h e =
    let at = width_at-line b.lines n w e in
    let sound = h.well_made.lines n at.0 at.1 in
    let is = at.2 in
    let some_bit = sound.some_bit in
    let small = sound.small in
    record { some_bit = omega arith; small = omega arith }

-- the value of a net, as it is read
pub value_width : (lines : List Line) (nets : List Word) (n : ℕ) (x : Word) → AreNets lines nets → n < length lines → x ≡ get_or nets n x → width_at lines n ≡ Some x.width
value_width lines nets n x h lt is =
    let some = slice_get-some lines n lt in
    let stands : slice_get nets n ≡ Some x = slice_get_read nets (length lines) n x (sym h.count) lt is in
    ap (option_map (λ (line : Line). line.width)) some.1 ∙ ap Some (sym (h.fit n some.0 x some.1 stands).width)

pub value_bits : (lines : List Line) (nets : List Word) (n : ℕ) (x : Word) → AreNets lines nets → n < length lines → x ≡ get_or nets n x → x.bits ≡ bits_at nets n
value_bits lines nets n x h lt is = sym (bits_at-is nets n x (slice_get_read nets (length lines) n x (sym h.count) lt is))

-- the equation of net n is the one that was read there
pub equation_is : (b : Netlist) (n : ℕ) (e : Equation) → IsModule b → n < length b.lines → ((w : ℕ) → HasWidth b n w → slice_get b.lines n ≡ Some (line_of w e)) → (line : Line) → slice_get b.lines n ≡ Some line → line.equation ≡ e
equation_is b n e h lt is line at = ap (λ (l : Line). l.equation) (same_Some _ _ (sym at ∙ (here b n e h lt is).at))
