-- Part of the statement of `zen_chart`: what stands around the drawing, which shows nothing of the trace but the size of its picture.
use Rattle.std.specs.Prelude.{ℕ, List, ◌++◌, codes, decimal}
use Rattle.sequence_chart.specs.declared.frame.TheConstants.{STYLE}

unfoldable pub size : ℕ → ℕ → List ℕ
size width height =
    codes "<svg xmlns='http://www.w3.org/2000/svg' xml:space='preserve' width='" ++ decimal width ++ codes "' height='" ++ decimal height
    ++ codes "' viewBox='0 0 "

unfoldable pub view : ℕ → ℕ → List ℕ
view width height = decimal width ++ codes " " ++ decimal height ++ codes "'>\n"

-- how the parts look, the forms of the marks, and the background: a constant of the program
unfoldable pub style : List ℕ
style = STYLE.now

abbrev pub frame : (width height : ℕ) → List ℕ
frame width height = size width height ++ (view width height ++ style)

abbrev pub last : List ℕ
last = codes "</svg>\n"
