-- Drawing == a drawn plan: its form, and the plan that it draws
-- Files   == what the program makes of a drawing
pub mod Drawing
pub mod Files
