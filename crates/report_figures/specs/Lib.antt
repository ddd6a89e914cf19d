pub mod FiguresText
