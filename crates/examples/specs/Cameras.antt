-- Tables of a camera and an arm: a report, figures and refusals.
use Rattle.std.specs.Prelude.{◌≡◌, ℕ, Bool, List, [], ◌∷◌, replicate, Some, Ok, codes, Option, Result}
use Rattle.tasks.specs.declared.table.Table.{Table}
use Rattle.tasks.specs.declared.refusal.Refusal.{Refusal}
use Rattle.tasks.specs.Rows.{Row, rows_of}
use Rattle.tasks.specs.Tables.{lines_of}
use Rattle.response.specs.Figures.{Answered}
use Rattle.text.specs.Reading.{reading}
use Rattle.report.specs.Answer.{takes, demand}

-- ---- the texts

abbrev pub cameras : List ℕ
cameras = codes "CAM,SRE,2,4,E,10,11,20,40\nARM,SRE,1,1,R,30,40,50,80\n"

-- with R for E
abbrev pub cameras_r : List ℕ
cameras_r = codes "CAM,SRE,2,4,R,10,11,20,40\nARM,SRE,1,1,R,30,40,50,80\n"

-- with DRE for the camera
abbrev pub cameras_dre : List ℕ
cameras_dre = codes "CAM,DRE,2,4,E,10,11,20,40\nARM,SRE,1,1,R,30,40,50,80\n"

-- with 40 for the arm's r
abbrev pub cameras_short : List ℕ
cameras_short = codes "CAM,SRE,2,4,E,10,11,20,40\nARM,SRE,1,1,R,30,40,40,80\n"

-- ---- what is told of them

-- the report of the first
abbrev pub report_told : List ℕ
report_told = codes "1,CAM,20\n2,ARM,80\nadmitted\n"

-- the figures of the second, and those of the third: the arm has none
abbrev pub figures_told : List ℕ
figures_told = 20 ∷ 0 ∷ replicate 30 0

-- number, line and place of the refusal of the last: r is not above d; and of that of the empty text
abbrev pub refusals_told : List (Option (ℕ × ℕ × ℕ))
refusals_told = Some (4, 2, 46) ∷ Some (1, 0, 0) ∷ []

-- ---- figures of a text

-- the places are what the figures of the table that the text says leave, if it says one
abbrev pub Figured : List ℕ → List ℕ → Type 0
Figured text places = (rows : List Row) → reading text ≡ Ok rows → (t : Table) × (r : Result Bool Refusal) × (rows_of t ≡ rows) × Answered takes demand (lines_of t) places r
